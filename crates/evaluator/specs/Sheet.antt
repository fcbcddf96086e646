-- A whole run: the last record of an accepted table, with no name bound.
use Rattle.std.specs.Prelude.{◌≡◌, List, ℕ, length, Ok}
use Rattle.values.specs.Place.{At}
use Rattle.tables.specs.Check.{check}
use Rattle.choices.specs.State.{Choices, Invariant}
use Rattle.meaning.specs.Service.{tree, scratch_bytes}
use Rattle.evaluator.specs.Contract.{Evaluated, Comes}

-- What is asked: an accepted table with an index of its records, the scratch of document 01, and choices in order.
pub record Runnable (table : List ℕ) (count : ℕ) (s : List ℕ) (c : Choices) : Type 0 where
  pub accepted : check table ≡ Ok count
  pub room : length s ≡ scratch_bytes
  pub sound : Invariant c

-- What is promised: the run of the sheet's tree comes to this, and a value stands at the start of scratch.
abbrev pub Runs : List ℕ → List ℕ → Choices → Evaluated → Type 0
Runs table t c e = Comes (tree table) (At t 0) c e
