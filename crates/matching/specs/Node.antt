-- What the functions on the parts of a pattern ask and promise.
use Rattle.std.specs.Prelude.{◌≡◌, Bool, true, false, ◌||◌, List, [], map, ◌⊎◌, ℕ, ◌+◌, ◌*◌, ◌^◌, ◌≤◌, ◌<◌, eqb, length, get_or, Result, Ok, Err}
use Rattle.values.specs.Value.{Kind, Value}
use Rattle.values.specs.Items.{same}
use Rattle.tables.specs.Record.{named, is_composed}
use Rattle.tables.specs.Table.{record_at, kind_at}
use Rattle.tables.specs.Accepted.{records}
use Rattle.parts.specs.declared.Part.{Part}
use Rattle.parts.specs.Part.{PartIs}
use Rattle.patterns.specs.Ways.{orders}
use Rattle.patterns.specs.Pattern.{Pattern, literal, UnitOf, most_split}
use Rattle.patterns.specs.Nodes.{collection_of, width, meetings, is_large, is_halved}
use Rattle.patterns.specs.Read.{Readable, pattern_at}
use Rattle.matching.specs.declared.nodes.Misfit.{Misfit}
use Rattle.matching.specs.declared.nodes.Misfit.TheVariants.{Unfit, TooLarge}

-- A pattern without parts.
pub record LeafHeld (table : List ℕ) (p : ℕ) : Type 0 where
  pub readable : Readable table p
  pub leaf : is_composed (kind_at (records table) p) ≡ false

-- r is the number of the unit that stands at i in the d-th order of n
pub record Ordinal (n d i r : ℕ) : Type 0 where
  pub below : r < n
  pub right : (k : Kind) (us : List (UnitOf k)) (z : UnitOf k) → length us ≡ n → get_or (get_or (orders us) d []) i z ≡ get_or us r z

-- 38 and 42 split a set or map; 37 and 41 pair their parts with its members or entries.
abbrev pub is_split : ℕ → Bool
is_split c = eqb c 38 || eqb c 42

abbrev pub is_paired : ℕ → Bool
is_paired c = eqb c 37 || eqb c 41

-- What an answer says of the splits of so many units: all but the two with an empty half are ways.
abbrev pub SplitsAs : ℕ → Result ℕ Misfit → Type 0
SplitsAs units (Err Unfit) = units < 2
SplitsAs units (Err TooLarge) = most_split < units
SplitsAs units (Ok m) = (2 ≤ units) × (units ≤ most_split) × (m + 2 ≡ 2 ^ units)

-- What an answer says of the ways in which n parts of a pattern of kind c meet a value.
abbrev pub MeetsAs : ℕ → ℕ → Value → Result ℕ Misfit → Type 0
MeetsAs c n v (Err Unfit) = (is_large c v ≡ false) × (meetings c n v ≡ [])
MeetsAs c n v (Err TooLarge) = is_large c v ≡ true
MeetsAs c n v (Ok m) = (is_large c v ≡ false) × (length (meetings c n v) ≡ m) × (0 < m) × (m < 256)

abbrev pub Meets : ℕ → ℕ → List ℕ → Part → Result ℕ Misfit → Type 0
Meets c n s p r = (v : Value) → PartIs s p v → MeetsAs c n v r

-- A way in which n parts meet a value, and the number of one of these parts, in a slice whose places fit.
pub record PieceHeld (c n : ℕ) (s : List ℕ) (p : Part) (d i : ℕ) : Type 0 where
  pub composed : is_composed c ≡ true
  pub few : n ≤ 4 * width (collection_of c)
  pub two : is_halved c ≡ true → n ≡ 2
  pub value : Value
  pub here : PartIs s p value
  pub narrow : is_large c value ≡ false
  pub below : d < length (meetings c n value)
  pub within : i < n
  pub short : length s ≤ 65536

-- r denotes what part i meets in the way d
abbrev pub PieceOf : ℕ → ℕ → List ℕ → Part → ℕ → ℕ → Part → Type 0
PieceOf c n s p d i r = (v z : Value) → PartIs s p v → PartIs s r (get_or (get_or (meetings c n v) d []) i z)

-- A record of kind 34, 35 or 43.
pub record LiteralHeld (table : List ℕ) (p : ℕ) : Type 0 where
  pub readable : Readable table p
  pub kind : (kind_at (records table) p ≡ 34) ⊎ ((kind_at (records table) p ≡ 35) ⊎ (kind_at (records table) p ≡ 43))

-- r says whether the part denotes the literal
abbrev pub LiteralIs : List ℕ → ℕ → List ℕ → Part → Bool → Type 0
LiteralIs table p s part r = (v w : Value) → PartIs s part v → pattern_at (records table) p ≡ literal w → r ≡ same w v

-- ---- the parts of a record

-- The patterns of the parts of a record.
abbrev pub inner_of : List ℕ → ℕ → List Pattern
inner_of table p = map (pattern_at (records table)) (named (record_at (records table) p))

-- What they meet, in every way, and in the way d.
abbrev pub ways_of : List ℕ → ℕ → Value → List (List Value)
ways_of table p v = meetings (kind_at (records table) p) (length (named (record_at (records table) p))) v

abbrev pub met_by : List ℕ → ℕ → Value → ℕ → List Value
met_by table p v d = get_or (ways_of table p v) d []
