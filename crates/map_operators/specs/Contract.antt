-- What the functions on maps ask and promise.
use Rattle.std.specs.Prelude.{◌≡◌, Bool, cond, List, ℕ, ◌+◌}
use Rattle.values.specs.Value.{Kind, set, map, Value, collection, Items}
use Rattle.values.specs.Items.{is_member, lookup}
use Rattle.values.specs.Place.{At, Holds}
use Rattle.collections.specs.Finding.{HoldsKind}
use Rattle.collections.specs.Building.{Apart}
use Rattle.operators.specs.Gather.{keep_entries}
use Rattle.operators.specs.Maps.{agrees_with, compatible}
use Rattle.calling.specs.Scratch.{second, Kept}

-- ---- an entry beside a map or a set

-- A collection of a kind stands at a place, and a key and a value stand at x and y.
pub record Beside (kind : Kind) (s : List ℕ) (at x y : ℕ) : Type 0 where
  pub held : HoldsKind kind s at
  pub key : Holds s x
  pub value : Holds s y

-- r says whether the map at a place has the value at y at the key at x, or nothing.
abbrev pub Agrees : List ℕ → ℕ → ℕ → ℕ → Bool → Type 0
Agrees s at x y r = (vs : Items) (k v : Value) → At s at (collection map vs) → At s x k → At s y v → r ≡ agrees_with (lookup k vs) v

-- Whether the key (by true) or the value (by false) of an entry is in the set.
abbrev pub passes : Bool → Items → Value → Value → Bool
passes by vs k v = is_member (cond by k v) vs

-- r says whether the key or the value of the entry at x and y is in the set at a place.
abbrev pub Passes : Bool → List ℕ → ℕ → ℕ → ℕ → Bool → Type 0
Passes by s at x y r = (vs : Items) (k v : Value) → At s at (collection set vs) → At s x k → At s y v → r ≡ passes by vs k v

-- ---- whole maps

-- r says whether the maps at base and above it are compatible.
abbrev pub Compatible : List ℕ → ℕ → Bool → Type 0
Compatible s base r = (vs ws : Items) → At s base (collection map vs) → At s (base + second) (collection map ws) → r ≡ compatible vs ws

-- A map stands at a place, and a set elsewhere.
pub record Restrictable (s : List ℕ) (at of : ℕ) : Type 0 where
  pub held : HoldsKind map s at
  pub members : HoldsKind set s of
  pub apart : Apart s at of

-- The map at a place has now those of its entries whose key, or whose value, is in the set.
pub record Restricts (by : Bool) (s t : List ℕ) (at of : ℕ) : Type 0 where
  pub kept : Kept s t at
  pub right : (vs ws : Items) → At s at (collection map vs) → At s of (collection set ws) → At t at (collection map (keep_entries (passes by ws) vs))
