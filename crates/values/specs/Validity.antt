-- What validating untrusted bytes asks and tells.
use Rattle.std.specs.Prelude.{◌≡◌, Bool, true, List, ℕ, ◌+◌, ◌≤◌, length}
use Rattle.integers.specs.Bytes.{word}
use Rattle.values.specs.Value.{Kind, number, Value, Items, count, keys, encode, Ascending, Paired, Shaped, WellFormed, value_limit}
use Rattle.values.specs.Place.{ItemsAt, Holds}

-- r says whether X is so.
pub record Tells (X : Type 0) (r : Bool) : Type 0 where
  pub sound : r ≡ true → X
  pub complete : X → r ≡ true

-- A part of s that is no longer than a value may be.
pub record Span (s : List ℕ) (at to : ℕ) : Type 0 where
  pub order : at ≤ to
  pub fits : to ≤ length s
  pub short : to ≤ at + value_limit

-- The record of some well-formed value stands at a place, and ends at another or before it.
pub record Inside (s : List ℕ) (at to : ℕ) : Type 0 where
  pub held : Holds s at
  pub ends : at + word s at ≤ to

-- A heading of a record of n bytes and of kind 1 stands at a place.
pub record Boolean (s : List ℕ) (at n : ℕ) : Type 0 where
  pub fits : at + n ≤ length s
  pub len : n ≡ word s at
  pub kind : word s (at + 2) ≡ 1

-- r says whether P is so of the items between two places, and how many they are.
abbrev pub TellsItems : (Items → Type 0) → List ℕ → ℕ → ℕ → Bool → Type 0
TellsItems P s from to r = (vs : Items) → ItemsAt s from to vs → Tells (P vs) r

abbrev pub CountsItems : List ℕ → ℕ → ℕ → ℕ → Type 0
CountsItems s from to r = (vs : Items) → ItemsAt s from to vs → r ≡ count vs

-- The items of a map.
abbrev pub Entries : Items → Type 0
Entries vs = Paired vs × Ascending (keys vs)

-- The items are shaped as the kind of this number asks.
abbrev pub ItemsShapedAs : ℕ → Items → Type 0
ItemsShapedAs kind vs = (k : Kind) × (kind ≡ number k) × Shaped k vs

-- The bytes are the record of the well-formed value v, and nothing else; they are some value's.
pub record Encodes (bytes : List ℕ) (v : Value) : Type 0 where
  pub is : bytes ≡ encode v
  pub fine : WellFormed v

abbrev pub IsValue : List ℕ → Type 0
IsValue bytes = (v : Value) × Encodes bytes v
