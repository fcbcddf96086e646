-- The bindings of a binder over values: distinct, in order, or a refusal.
use Rattle.std.specs.Prelude.{List, ℕ, leb, length, cond}
use Rattle.values.specs.Value.{Value}
use Rattle.patterns.specs.Ways.{gather, exists}
use Rattle.patterns.specs.Binding.{Binding, sorted}
use Rattle.patterns.specs.Pattern.{Pattern, matches, wide}

-- The most distinct bindings that a binder may have.
abbrev pub most_bindings : ℕ
most_bindings = 255

-- The distinct bindings over all values, ordered by their values taken in rising name number.
abbrev pub bindings : Pattern → List Value → List Binding
bindings p vs = sorted (gather vs (matches p))

-- The bindings, or 29 or 30.
pub data Formed : Type 0 where
  bound : List Binding → Formed
  refused : ℕ → Formed

abbrev pub few : List Binding → Formed
few bs = cond (leb (length bs) most_bindings) (bound bs) (refused 30)

-- All are formed before the first condition is evaluated; 29 comes before 30.
abbrev pub formed : Pattern → List Value → Formed
formed p vs = cond (exists vs (wide p)) (refused 29) (few (bindings p vs))
