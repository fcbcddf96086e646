-- The list that is due: a run from these choices is the run of the k-th complete list in dictionary order.
use Rattle.std.specs.Prelude.{◌≡◌, Bool, true, false, List, [], ℕ, ◌<◌, length, get_or}
use Rattle.choices.specs.State.{Choices, view, Invariant}
use Rattle.choices.specs.Tree.{Tree, run}
use Rattle.choices.specs.Paths.{all_lists}
use Rattle.choices.specs.Runs.{run_on}
use Rattle.choices.specs.Ran.{ran_as, at_end}

-- The k-th list, from 0.
abbrev pub list_at : {A : Type 0} → Tree A → ℕ → List ℕ
list_at t k = get_or (all_lists t) k []

-- There is a k-th list, and a run from c follows it and stops at its end.
pub record Due {A : Type 0} (t : Tree A) (k : ℕ) (c : Choices) : Type 0 where
  pub below : k < length (all_lists t)
  pub sound : Invariant c
  pub follows : run_on t (view c) ≡ ran_as (run t (list_at t k)) (at_end t (list_at t k) true)

-- k lists are printed: the k-th, counted from 0, is due, or there are only k.
pub record Behind {A : Type 0} (t : Tree A) (k : ℕ) (more : Bool) (c : Choices) : Type 0 where
  pub next : more ≡ true → Due t k c
  pub none : more ≡ false → k ≡ length (all_lists t)
