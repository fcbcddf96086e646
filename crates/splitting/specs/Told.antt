-- What the functions ask and promise.
use Rattle.std.specs.Prelude.{◌≡◌, Bool, true, false, List, ℕ, ◌≤◌, ◌<◌, length}
use Rattle.values.specs.Value.{Value}
use Rattle.tables.specs.Record.{is_composed}
use Rattle.tables.specs.Table.{kind_at}
use Rattle.tables.specs.Accepted.{records}
use Rattle.parts.specs.declared.Part.{Part}
use Rattle.parts.specs.Part.{PartIs}
use Rattle.patterns.specs.Ways.{exists}
use Rattle.patterns.specs.Pattern.{wide, wide_each}
use Rattle.patterns.specs.Read.{patterns_of, pattern_at}
use Rattle.patterns.specs.Nodes.{is_large}
use Rattle.matching.specs.Node.{inner_of, ways_of, met_by}
use Rattle.splitting.specs.Split.{has_split, shallow}

-- r says whether pattern record p holds a union or munion pattern, and whether it is shallow
abbrev pub TellsSplit : List ℕ → ℕ → Bool → Type 0
TellsSplit table p r = r ≡ has_split (pattern_at (records table) p)

abbrev pub TellsShallow : List ℕ → ℕ → Bool → Type 0
TellsShallow table p r = r ≡ shallow (pattern_at (records table) p)

-- r says whether a union or munion pattern in pattern record p is met by a set or map of over seven, where p meets what the part denotes: number 29
abbrev pub TellsWide : List ℕ → ℕ → List ℕ → Part → Bool → Type 0
TellsWide table p s part r = (v : Value) → PartIs s part v → r ≡ wide (pattern_at (records table) p) v

-- In one of these ways a part is wide with what it meets.
abbrev pub wide_ways : List ℕ → ℕ → List (List Value) → Bool
wide_ways table p ws = exists ws (λ vs. wide_each (patterns_of (inner_of table p)) vs)

-- r says whether a part of p is wide with what it meets: in some way, and in the way d
abbrev pub TellsWays : List ℕ → ℕ → List ℕ → Part → Bool → Type 0
TellsWays table p s part r = (v : Value) → PartIs s part v → r ≡ wide_ways table p (ways_of table p v)

abbrev pub TellsWay : List ℕ → ℕ → List ℕ → Part → ℕ → Bool → Type 0
TellsWay table p s part d r = (v : Value) → PartIs s part v → r ≡ wide_each (patterns_of (inner_of table p)) (met_by table p v d)

-- There are w ways in which the parts of p meet what the part denotes, in a slice whose places fit.
pub record WaysHeld (table : List ℕ) (p : ℕ) (s : List ℕ) (part : Part) (w : ℕ) : Type 0 where
  pub composed : is_composed (kind_at (records table) p) ≡ true
  pub value : Value
  pub here : PartIs s part value
  pub narrow : is_large (kind_at (records table) p) value ≡ false
  pub count : length (ways_of table p value) ≡ w
  pub short : length s ≤ 65536

-- d is the number of one of them.
pub record WayHeld (table : List ℕ) (p : ℕ) (s : List ℕ) (part : Part) (d : ℕ) : Type 0 where
  pub composed : is_composed (kind_at (records table) p) ≡ true
  pub value : Value
  pub here : PartIs s part value
  pub narrow : is_large (kind_at (records table) p) value ≡ false
  pub below : d < length (ways_of table p value)
  pub short : length s ≤ 65536
