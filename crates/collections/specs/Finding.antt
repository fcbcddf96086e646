-- What finding in collections asks and answers.
use Rattle.std.specs.Prelude.{◌≡◌, Bool, true, false, not, List, Result, ℕ, ◌+◌, ◌≤◌}
use Rattle.std.specs.declared.option.Option.{Option as Maybe}
use Rattle.std.proofs.Math.Option.{Option, none as absent, some}
use Rattle.values.specs.Value.{Kind, set, map, Value, collection, Items, none, more, count, size, order}
use Rattle.values.specs.Items.{is_member, nth, lookup, in_order}
use Rattle.values.specs.Place.{At, ItemsAt}
use Rattle.integers.specs.Bytes.{word}
use Rattle.std.specs.Prelude.{Ok, Err, Some, None}

-- ---- the types of answers

-- where what was looked for stands, if it is there
abbrev pub Found : Type 0
Found = Maybe ℕ

-- where a value stands, or else before what it belongs
abbrev pub Sought : Type 0
Sought = Result ℕ ℕ

-- ---- what is asked

-- A collection of a kind stands at a place.
pub record HoldsKind (k : Kind) (s : List ℕ) (at : ℕ) : Type 0 where
  pub items : Items
  pub here : At s at (collection k items)

-- A collection of some kind stands at a place.
pub record HoldsCollection (s : List ℕ) (at : ℕ) : Type 0 where
  pub kind : Kind
  pub items : Items
  pub here : At s at (collection kind items)

-- ---- what is answered

-- The first item, from a place on, that is not lower than v. Of entries only the keys are looked at: `key` says that the next item is one.
-- (Among members each item counts as one.)
unfoldable pub seek : Bool → Bool → Value → Items → ℕ → Sought
seek entries key v none p = Err p
seek entries true v (more w ws) p = in_order (order v w) (Err p) (Ok p) (seek entries (not entries) v ws (p + size w))
seek entries false v (more w ws) p = seek entries true v ws (p + size w)

-- r is where the value at x stands or belongs among the members of a set or, of entries, among the keys of a map.
abbrev pub Seeks : List ℕ → ℕ → ℕ → Bool → Sought → Type 0
Seeks s at x entries r = (kind : Kind) (vs : Items) (v : Value) → At s at (collection kind vs) → At s x v → r ≡ seek entries true v vs (at + 4)

-- Seeking from p on, among the items that are left there, is seeking from the first item on.
pub record SeeksOn (s : List ℕ) (at x : ℕ) (entries : Bool) (p : ℕ) : Type 0 where
  pub from : at + 4 ≤ p
  pub left : (kind : Kind) (vs : Items) → At s at (collection kind vs) → (rest : Items) × ItemsAt s p (at + word s at) rest × ((v : Value) → At s x v → seek entries true v vs (at + 4) ≡ seek entries true v rest p)

-- A place between two others where the value stands, if there is one.
pub data Finds (s : List ℕ) (from to : ℕ) : Found → Option Value → Type 0 where
  found : {p : ℕ} {v : Value} → At s p v → from ≤ p → p + size v ≤ to → Finds s from to (Some p) (some v)
  missing : Finds s from to None absent

-- The record is one of those within the collection at a place.
abbrev pub FindsIn : List ℕ → ℕ → Value → Found → Option Value → Type 0
FindsIn s at w r o = Finds s (at + 4) (at + size w) r o

-- r says whether the value at x is a member of the set at a place.
abbrev pub Contains : List ℕ → ℕ → ℕ → Bool → Type 0
Contains s at x r = (vs : Items) (v : Value) → At s at (collection set vs) → At s x v → r ≡ is_member v vs

-- r is the place of what the map at a place has at the key that stands at k.
abbrev pub AtKey : List ℕ → ℕ → ℕ → Found → Type 0
AtKey s at k r = (vs : Items) (v : Value) → At s at (collection map vs) → At s k v → FindsIn s at (collection map vs) r (lookup v vs)

-- r is the place of the k-th item of the collection at a place.
abbrev pub Item : List ℕ → ℕ → ℕ → Found → Type 0
Item s at k r = (kind : Kind) (vs : Items) → At s at (collection kind vs) → FindsIn s at (collection kind vs) r (nth vs k)

-- r is the number of items of the collection at a place.
abbrev pub Counted : List ℕ → ℕ → ℕ → Type 0
Counted s at r = (kind : Kind) (vs : Items) → At s at (collection kind vs) → r ≡ count vs
