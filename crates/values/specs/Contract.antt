-- What the functions on values ask and promise. Each promise is for whatever value stands at the place that a function is given: by
-- `one_value` (proofs/Records) there is one.
use Rattle.std.specs.Prelude.{◌≡◌, Bool, List, [], ◌++◌, ◌⊎◌, ℕ, ◌+◌, ◌-◌, ◌≤◌, length, take, drop, replicate}
use Rattle.std.proofs.lemmas.List.Edits.{sets}
use Rattle.integers.specs.Bytes.{word}
use Rattle.std.specs.declared.cmp.Ordering.{Ordering}
use Rattle.values.specs.declared.Value.{Value as Copy}
use Rattle.values.specs.Value.{Value, boolean, quote, Items, kind_of, size, byte_of, headed, encode, order, order_items, value_limit}
use Rattle.values.specs.Items.{same}
use Rattle.values.specs.Place.{At, ItemsAt, Holds, Outside}

-- ---- reading

-- r is the length of the record at a place
pub record Length (s : List ℕ) (at r : ℕ) : Type 0 where
  pub is : r ≡ word s at
  pub low : 4 ≤ r
  pub high : r ≤ value_limit
  pub right : (v : Value) → At s at v → r ≡ size v

-- r is the kind of the value at a place
pub record KindAt (s : List ℕ) (at r : ℕ) : Type 0 where
  pub is : r ≡ word s (at + 2)
  pub low : 1 ≤ r
  pub high : r ≤ 7
  pub right : (v : Value) → At s at v → r ≡ kind_of v

-- some value of kind k stands at a place, and at two places
pub record OfKind (s : List ℕ) (at k : ℕ) : Type 0 where
  pub held : Holds s at
  pub kind : word s (at + 2) ≡ k

pub record Both (s : List ℕ) (a b k : ℕ) : Type 0 where
  pub first : OfKind s a k
  pub second : OfKind s b k

-- the kinds of values that are ordered by a number; r is that number of the value at a place: 0 for false, 1 for true, a quote's own
abbrev pub Numbered : ℕ → Type 0
Numbered k = (k ≡ 1) ⊎ (k ≡ 7)

pub record NumberAt (s : List ℕ) (at r : ℕ) : Type 0 where
  pub truth : (b : Bool) → At s at (boolean b) → r ≡ byte_of b
  pub own : (n : ℕ) → At s at (quote n) → r ≡ n

-- o is the order of the values at two places, and of the items between two places each
abbrev pub Ordered : List ℕ → ℕ → ℕ → Ordering → Type 0
Ordered s a b o = (v w : Value) → At s a v → At s b w → o ≡ order v w

abbrev pub OrderedItems : List ℕ → ℕ → ℕ → ℕ → ℕ → Ordering → Type 0
OrderedItems s a a' b b' o = (vs ws : Items) → ItemsAt s a a' vs → ItemsAt s b b' ws → o ≡ order_items vs ws

-- r says whether the values at two places are equal
abbrev pub AreEqual : List ℕ → ℕ → ℕ → Bool → Type 0
AreEqual s a b r = (v w : Value) → At s a v → At s b w → r ≡ same v w

-- ---- handing out

abbrev pub zeros : ℕ → List ℕ
zeros n = replicate n 0

-- c has the bytes l, and then zeros up to the limit
pub record Shows (l : List ℕ) (c : Copy) : Type 0 where
  pub len : c.len ≡ length l
  pub bytes : c.bytes ≡ l ++ zeros (value_limit - length l)

-- c shows the value at a place
abbrev pub ShowsAt : List ℕ → ℕ → Copy → Type 0
ShowsAt s at c = (v : Value) → At s at v → Shows (encode v) c

-- ---- writing

-- a record's length and kind
abbrev pub heading : ℕ → ℕ → List ℕ
heading n k = headed n k []

-- t is s with the heading of a record at a place
pub record PutHead (s t : List ℕ) (at n k : ℕ) : Type 0 where
  pub bytes : t ≡ sets s at (heading n k)
  pub outside : Outside s t at (at + 4)

-- t is s with the record of v, which has n bytes, at a place; it ends at r
pub record Put (s t : List ℕ) (at : ℕ) (v : Value) (n r : ℕ) : Type 0 where
  pub ends : r ≡ at + n
  pub sized : size v ≡ n
  pub bytes : t ≡ sets s at (encode v)
  pub here : At t at v
  pub outside : Outside s t at (at + n)

-- ---- copying

-- n bytes can be copied from a place to another
pub record Movable (s : List ℕ) (from to n : ℕ) : Type 0 where
  pub there : from + n ≤ length s
  pub room : to + n ≤ length s

-- bytes are not copied up over themselves
abbrev pub IsApart : ℕ → ℕ → ℕ → Type 0
IsApart from to n = (from + n ≤ to) ⊎ (to ≤ from)

-- t is s with the n bytes at `from` put at `to`
pub record Moved (s t : List ℕ) (from to n : ℕ) : Type 0 where
  pub outside : Outside s t to (to + n)
  pub bytes : take n (drop to t) ≡ take n (drop from s)

-- the same for the record at a place
pub record Copyable (s : List ℕ) (from to : ℕ) : Type 0 where
  pub held : Holds s from
  pub room : to + word s from ≤ length s
  pub apart : (from + word s from ≤ to) ⊎ (to ≤ from)

-- t is s with the record at `from` copied to `to`, where it ends at r
pub record Copied (s t : List ℕ) (from to r : ℕ) : Type 0 where
  pub ends : r ≡ to + word s from
  pub outside : Outside s t to r
  pub bytes : take (word s from) (drop to t) ≡ take (word s from) (drop from s)
  pub here : (v : Value) → At s from v → At t to v
