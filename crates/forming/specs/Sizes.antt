-- How many units a pattern takes, members, entries or items, and the ways that give its halves so many.
use Rattle.std.specs.Prelude.{◌≡◌, true, false, cond, List, [], ℕ, ◌+◌, ◌-◌, ◌≤◌, ◌<◌, eqb, length, get_or, Option, Some, None}
use Rattle.std.specs.Int.Count.{ones}
use Rattle.values.specs.Value.{Kind, Value, collection}
use Rattle.tables.specs.Record.{operand}
use Rattle.tables.specs.Table.{record_at, kind_at}
use Rattle.tables.specs.Accepted.{records}
use Rattle.parts.specs.Part.{PartIs}
use Rattle.parts.specs.Word.{unpacked}
use Rattle.patterns.specs.Ways.{Halves, halves}
use Rattle.patterns.specs.Binding.{Binding}
use Rattle.patterns.specs.Pattern.{Pattern, items_of, UnitOf, items_in, halves_in, is_unordered, divisions}
use Rattle.patterns.specs.Relation.{Matches}
use Rattle.patterns.specs.Nodes.{collection_of, is_halved}
use Rattle.patterns.specs.Read.{Readable, pattern_at}
use Rattle.forming.specs.declared.sizes.Size.{Size}
use Rattle.forming.specs.declared.sizes.Sizes.{Sizes}
use Rattle.forming.specs.declared.sizes.Range.{Range}
use Rattle.forming.specs.Compatible.{Compatible}

-- Kind 38 splits sets, kind 40 cuts sequences, kind 42 splits maps.
abbrev pub Splits : ℕ → Type 0
Splits c = is_halved c ≡ true

-- The kind of patterns with a part for each item of what kind c splits or cuts.
abbrev pub enumeration_of : ℕ → ℕ
enumeration_of c = cond (eqb c 38) 37 (cond (eqb c 42) 41 39)

-- A half has at least so many units: of a set or map it holds something (wish 1), of a sequence it may be empty.
abbrev pub fewest_of : Kind → ℕ
fewest_of k = cond (is_unordered k) 1 0

-- A size that n is.
pub record Sized (z : Size) (n : ℕ) : Type 0 where
  pub least : z.least ≤ n
  pub exact : z.more ≡ false → n ≡ z.least

-- Where the word stands for a collection of the kind that c splits or cuts, this has such a size.
abbrev pub SizeOfValue : List ℕ → ℕ → ℕ → Size → Type 0
SizeOfValue s word c z = (us : List (UnitOf (collection_of c))) → PartIs s (unpacked word) (collection (collection_of c) (items_of (items_in (collection_of c) us))) → Sized z (length us)

-- A half of the kind that the pattern matches with values that are compatible with b has such a size.
abbrev pub Takes : Binding → Kind → Pattern → Size → Type 0
Takes b k p z = (us : List (UnitOf k)) (a : Binding) → fewest_of k ≤ length us → Matches p (collection k (items_of (items_in k us))) a → Compatible b a → Sized z (length us)

abbrev pub TellsSize : List ℕ → Binding → ℕ → ℕ → Size → Type 0
TellsSize table b p c z = Takes b (collection_of c) (pattern_at (records table) p) z

pub record Sum (l r z : Size) : Type 0 where
  pub right : (m n : ℕ) → Sized l m → Sized r n → Sized z (m + n)

-- ---- the halves of a pattern of kind c

pub record HalvesHeld (table : List ℕ) (p c : ℕ) : Type 0 where
  pub readable : Readable table p
  pub of_kind : kind_at (records table) p ≡ c

pub record HalvesTake (table : List ℕ) (b : Binding) (p c : ℕ) (z : Sizes) : Type 0 where
  pub splits : Splits c
  pub left : TellsSize table b (operand (record_at (records table) p) 0) c z.left
  pub right : TellsSize table b (operand (record_at (records table) p) 1) c z.right

abbrev pub TellsSizes : List ℕ → Binding → ℕ → ℕ → Option Sizes → Type 0
TellsSizes table b p c z = (y : Sizes) → z ≡ Some y → HalvesTake table b p c y

-- ---- how many the right half has in a way

-- The right half has from the least to the most of the range of n units, where both halves have such sizes.
pub record RightsIn (z : Sizes) (n : ℕ) (r : Range) : Type 0 where
  pub low : r.most ≤ n
  pub right : (i j : ℕ) → i + j ≡ n → Sized z.left i → Sized z.right j → (r.least ≤ j) × (j ≤ r.most)

-- Or there is no such number.
abbrev pub Rights : Sizes → ℕ → Option Range → Type 0
Rights z n (Some r) = RightsIn z n r
Rights z n None = (i j : ℕ) → i + j ≡ n → Sized z.left i → Sized z.right j → ⊥

-- The ways from d up to e of w ways do not give the right half so many, where way j gives it f j.
pub record FirstOf (f : ℕ → ℕ) (w d : ℕ) (r : Range) (e : ℕ) : Type 0 where
  pub low : d ≤ e
  pub within : d ≤ w → e ≤ w
  pub passed : (j : ℕ) → d ≤ j → j < e → r.least ≤ f j → f j ≤ r.most → ⊥

-- The d-th of all splits gives it as many as bits of d are set.
abbrev pub SplitFrom : ℕ → ℕ → Range → ℕ → Type 0
SplitFrom = FirstOf ones

-- The last cut gives it none, each before that one more.
abbrev pub CutFrom : ℕ → ℕ → Range → ℕ → Type 0
CutFrom w = FirstOf (λ j. w - 1 - j) w

-- ---- ways without a match

abbrev pub half_at : Kind → List Value → ℕ → Halves Value
half_at k vs j = get_or (divisions k vs) j (halves [] [])

-- The halves of way j of w have no such sizes.
abbrev pub Barren : Kind → ℕ → Sizes → ℕ → Type 0
Barren k w z j =
    (vs : List Value) (h : Halves (UnitOf k)) → length (divisions k vs) ≡ w → half_at k vs j ≡ halves_in k h
    → Sized z.left (length h.left) → Sized z.right (length h.right) → ⊥

pub record Divisible (c w : ℕ) : Type 0 where
  pub splits : Splits c
  pub values : List Value
  pub ways : length (divisions (collection_of c) values) ≡ w

abbrev pub FromHeld : ℕ → ℕ → Option Sizes → Type 0
FromHeld c w z = (y : Sizes) → z ≡ Some y → Divisible c w

pub record From (c w d : ℕ) (z : Option Sizes) (r : ℕ) : Type 0 where
  pub low : d ≤ r
  pub within : d ≤ w → r ≤ w
  pub barren : (j : ℕ) → d ≤ j → j < r → (y : Sizes) × (z ≡ Some y) × Barren (collection_of c) w y j
