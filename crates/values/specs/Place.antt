-- Where a value stands in a slice: its record, byte for byte.
use Rattle.std.specs.Prelude.{◌≡◌, List, ℕ, ◌+◌, ◌≤◌, length, take, drop}
use Rattle.integers.specs.Bytes.{word}
use Rattle.values.specs.Value.{Value, Items, size, sizes, encode, encode_items, SoundItems, WellFormed, value_limit}

-- The record of the well-formed value v stands at a place of s.
pub record At (s : List ℕ) (at : ℕ) (v : Value) : Type 0 where
  pub fits : at + size v ≤ length s
  pub fine : WellFormed v
  pub bytes : take (size v) (drop at s) ≡ encode v

-- The records of the items vs stand from a place up to another.
pub record ItemsAt (s : List ℕ) (from to : ℕ) (vs : Items) : Type 0 where
  pub ends : from + sizes vs ≡ to
  pub fits : to ≤ length s
  pub fine : SoundItems vs
  pub short : sizes vs ≤ value_limit
  pub bytes : take (sizes vs) (drop from s) ≡ encode_items vs

-- Some value's record stands at a place, with what code needs to know of its length.
pub record Holds (s : List ℕ) (at : ℕ) : Type 0 where
  pub value : Value
  pub here : At s at value
  pub low : 4 ≤ word s at
  pub high : word s at ≤ value_limit
  pub whole : at + word s at ≤ length s

-- Some items' records stand from a place up to another.
abbrev pub HoldsItems : List ℕ → ℕ → ℕ → Type 0
HoldsItems s from to = (vs : Items) × ItemsAt s from to vs

-- t is s but for the bytes from a place up to another.
pub record Outside (s t : List ℕ) (from to : ℕ) : Type 0 where
  pub long : length t ≡ length s
  pub below : take from t ≡ take from s
  pub above : drop to t ≡ drop to s
