-- Document 01, "The walk": a walk is 64 entries and a length. The panel lends both; the entries may be fewer or more than 64.
use Rattle.std.specs.Prelude.{◌≡◌, List, [], ◌∷◌, ◌++◌, ℕ, ◌<◌, length, take, drop}
use Rattle.choices.specs.Tree.{most_choices}
use Rattle.choices.specs.Lists.{padded}

-- Entries are bytes.
abbrev pub Bytes : List ℕ → Type 0
Bytes [] = Unit {0}
Bytes (c ∷ l) = (c < 256) × Bytes l

-- As many entries as there are, and the length, whatever number it is.
pub record Walk : Type 0 where
  pub entries : List ℕ
  pub len : ℕ

-- The list that a step reads: the entries below the length.
abbrev pub walk_list : Walk → List ℕ
walk_list w = take w.len w.entries

-- A granted call writes 64 entries, the list and zeros after its end, and the length. It leaves what lies beyond 64.
unfoldable pub overwritten : List ℕ → Walk → Walk
overwritten l w = record { entries = padded l ++ drop most_choices w.entries; len = length l }

-- The walk shows the list l: the length, the entries, and zeros to 64.
pub record Shows (w : Walk) (l : List ℕ) : Type 0 where
  pub its_length : w.len ≡ length l
  pub its_entries : take most_choices w.entries ≡ padded l
