-- The lent bytes of a run's choices, between runs.
use Rattle.std.specs.Prelude.{◌≡◌, List, ℕ, set}
use Rattle.choices.specs.declared.list.Walk.{Walk}
use Rattle.choices.specs.State.{Invariant}
use Rattle.lists.specs.Lent.{lent}

-- A run that used its whole list.
pub record UsedWhole (run : List ℕ) : Type 0 where
  pub sound : Invariant (lent run)
  pub used : (lent run).used ≡ (lent run).len

-- The start of a run that grows, under the first len entries.
abbrev pub restarted : List ℕ → ℕ → List ℕ
restarted run len = set (set (set run 0 len) 1 0) 2 1

-- The walk has the run's entries and length.
pub record SameList (run : List ℕ) (w : Walk) : Type 0 where
  pub entries : w.entries ≡ (lent run).entries
  pub len : w.len ≡ (lent run).len
