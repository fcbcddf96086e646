-- A whole set or map that is to be split, as a choice of all its members or entries.
use Rattle.std.specs.Prelude.{◌≡◌, false, List, ℕ, ◌≤◌, ◌<◌, length}
use Rattle.values.specs.Value.{Value}
use Rattle.parts.specs.Part.{PartIs}
use Rattle.parts.specs.Word.{unpacked}
use Rattle.patterns.specs.Nodes.{meetings, is_large}

-- The value of a word is met by the parts of a pattern of kind c in so many ways.
pub record WordMet (s : List ℕ) (c word ways : ℕ) : Type 0 where
  pub short : length s ≤ 65536
  pub value : Value
  pub here : PartIs s (unpacked word) value
  pub narrow : is_large c value ≡ false
  pub count : ℕ
  pub met : length (meetings c count value) ≡ ways
  pub some : 0 < ways
  pub few : ways < 256

-- r stands for what a word stands for.
abbrev pub SameValue : List ℕ → ℕ → ℕ → Type 0
SameValue s word r = (v : Value) → PartIs s (unpacked word) v → PartIs s (unpacked r) v
