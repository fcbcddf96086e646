-- What the steps of building ask and promise: a gap is opened before what stands at a place, and filled.
use Rattle.std.specs.Prelude.{◌≡◌, List, ◌⊎◌, ℕ, ◌+◌, ◌≤◌, length}
use Rattle.integers.specs.Bytes.{word}
use Rattle.values.specs.Value.{Kind, map, number, Value, collection, Items, more, size, sizes, Shaped, value_limit}
use Rattle.values.specs.Items.{join}
use Rattle.values.specs.Place.{At, ItemsAt, Holds, Outside}
use Rattle.std.specs.Prelude.{Ok, Err}
use Rattle.prelude.specs.declared.Refusal.{Refusal}
use Rattle.collections.specs.Building.{Added, added, Apart}

-- The item at x can go in before what stands between two places.
pub record Gap (s : List ℕ) (p end x : ℕ) : Type 0 where
  pub item : Holds s x
  pub order : p ≤ end
  pub room : end + word s x ≤ length s
  pub apart : (x + word s x ≤ p) ⊎ (end + word s x ≤ x)

-- The item at x went in before what stood between two places.
pub record Fills (s t : List ℕ) (p end x : ℕ) : Type 0 where
  pub frame : Outside s t p (end + word s x)
  pub right : (vs : Items) (v : Value) → ItemsAt s p end vs → At s x v → size v + sizes vs ≤ value_limit → ItemsAt t p (end + size v) (more v vs)

-- The item at x can go into the collection at a place, before what stands at p within it.
pub record Slot (s : List ℕ) (at p x : ℕ) : Type 0 where
  pub held : Holds s at
  pub low : at + 4 ≤ p
  pub high : p ≤ at + word s at
  pub room : at + value_limit ≤ length s
  pub item : Holds s x
  pub apart : Apart s at x

-- The item at x went into the collection at a place, before what stood at p, and the collection is of this kind.
pub record AddsAt (s t : List ℕ) (at p x kind : ℕ) (r : Added) : Type 0 where
  pub frame : Outside s t at (at + value_limit)
  pub refused : (e : Refusal) → r ≡ Err e → t ≡ s
  pub answers : r ≡ added (word s at + word s x)
  pub made : (k : Kind) (us ws : Items) (v : Value) → r ≡ Ok tt → kind ≡ number k → ItemsAt s (at + 4) p us → ItemsAt s p (at + word s at) ws → At s x v
      → Shaped k (join us (more v ws)) → At t at (collection k (join us (more v ws)))

-- The entry of the key at x and the value at y went into the map at a place, before what stood at p.
pub record EntersAt (s t : List ℕ) (at p x y : ℕ) (r : Added) : Type 0 where
  pub frame : Outside s t at (at + value_limit)
  pub refused : (e : Refusal) → r ≡ Err e → t ≡ s
  pub answers : r ≡ added (word s at + word s x + word s y)
  pub made : (us ws : Items) (k v : Value) → r ≡ Ok tt → ItemsAt s (at + 4) p us → ItemsAt s p (at + word s at) ws → At s x k → At s y v
      → Shaped map (join us (more k (more v ws))) → At t at (collection map (join us (more k (more v ws))))
