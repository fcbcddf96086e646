-- Bindings by what they give to names, and two of them together, with no cells and no clash.
-- It is proved that `merge` puts together exactly those bindings, and gives exactly that one (`Laws.Given`).
use Rattle.std.specs.Prelude.{◌≡◌, ◌⊎◌, ℕ, length}
use Rattle.values.specs.Value.{Value}
use Rattle.patterns.specs.Binding.{is, clash, Binding, names, cell_of}

-- The binding gives the name x the value v.
abbrev pub Gives : Binding → ℕ → Value → Type 0
Gives b x v = cell_of b x ≡ is v

-- A cell for each name, and none of them a clash: a name has one value or none.
pub record IsBinding (b : Binding) : Type 0 where
  pub sized : length b ≡ names
  pub clear : (x : ℕ) → cell_of b x ≡ clash → ⊥

-- c gives each name the value that a or b gives it, and no other. So where both give one, it is the same (`Laws.Given.same_given`).
pub record GivesBoth (a b c : Binding) : Type 0 where
  pub first : (x : ℕ) (v : Value) → Gives a x v → Gives c x v
  pub second : (x : ℕ) (v : Value) → Gives b x v → Gives c x v
  pub no_more : (x : ℕ) (v : Value) → Gives c x v → Gives a x v ⊎ Gives b x v
