-- Document 01, "The walk": a walk is 64 entries and a length. Zeros follow the list's end.
use Rattle.std.specs.Prelude.{◌≡◌, List, ℕ, ◌≤◌, length, take}
use Rattle.choices.specs.declared.list.Walk.{Walk}
use Rattle.choices.specs.Tree.{most_choices}
use Rattle.choices.specs.Lists.{padded}

-- The walk holds the list l, and zeros after its end.
pub record Lists (w : Walk) (l : List ℕ) : Type 0 where
  pub long : w.len ≡ length l
  pub padding : w.entries ≡ padded l

-- A walk whose list can be run: the length is at most 64. What follows the entries below it may be anything.
pub record Runnable (w : Walk) : Type 0 where
  pub sized : length w.entries ≡ most_choices
  pub short : w.len ≤ most_choices

-- The entries below the length.
abbrev pub list_held : Walk → List ℕ
list_held w = take w.len w.entries
