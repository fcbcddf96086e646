-- Bindings that may go together.
use Rattle.std.specs.Prelude.{◌≡◌, ℕ, ◌<◌}
use Rattle.values.specs.Value.{Value}
use Rattle.patterns.specs.Binding.{is, Binding, names, cell_of}

-- Two bindings give no name two values.
abbrev pub Compatible : Binding → Binding → Type 0
Compatible b a = (x : ℕ) → x < names → (v w : Value) → cell_of b x ≡ is v → cell_of a x ≡ is w → v ≡ w
