-- The state around a record: a value for each name that is bound there.
use Rattle.std.proofs.Math.Option.{Option, none as absent, some}
use Rattle.std.specs.Prelude.{[], ◌∷◌, ℕ}
use Rattle.values.specs.Value.{Value}
use Rattle.patterns.specs.Binding.{Binding, Cell, free, is, clash, nothing, cell_of}

-- A cell for each name, as in a binding.
abbrev pub State : Type 0
State = Binding

-- No name is bound.
abbrev pub unbound : State
unbound = nothing

abbrev pub over : Cell → Cell → Cell
over c free = c
over c (is v) = is v
over c clash = c

-- The state with a binder's names bound as well.
unfoldable pub under : State → Binding → State
under [] bs = []
under (c ∷ cs) [] = c ∷ cs
under (c ∷ cs) (b ∷ bs) = over c b ∷ under cs bs

-- The value of a name, where it is bound.
abbrev pub held_value : Cell → Option Value
held_value free = absent
held_value (is v) = some v
held_value clash = absent

abbrev pub value_in : State → ℕ → Option Value
value_in ρ x = held_value (cell_of ρ x)
