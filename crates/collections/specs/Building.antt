-- What building collections asks and promises. A collection that is being built has room for the 512 bytes of the longest value.
use Rattle.std.specs.Prelude.{◌≡◌, List, ◌⊎◌, ℕ, ◌+◌, ◌≤◌, leb, length, cond, Result, ⊤}
use Rattle.std.proofs.Math.Option.{Option, none as absent, some}
use Rattle.integers.specs.Bytes.{word}
use Rattle.values.specs.Value.{Kind, set, sequence, map, number, Value, collection, Items, none, size, Shaped, value_limit}
use Rattle.values.specs.Items.{same, snoc, insert, lookup, enter}
use Rattle.values.specs.Place.{At, Holds, Outside}
use Rattle.std.specs.Prelude.{Ok, Err}
use Rattle.prelude.specs.declared.Refusal.{Refusal}
use Rattle.prelude.specs.declared.Refusal.TheVariants.{TooLarge, Clash}
use Rattle.collections.specs.Finding.{HoldsKind}

-- ---- answers

-- Done, or why nothing was done: one key and two values, or a value over 512 bytes.
abbrev pub Added : Type 0
Added = Result ⊤ Refusal

-- A whole of n bytes is refused exactly where it is over the limit.
abbrev pub added : ℕ → Added
added n = cond (leb n value_limit) (Ok tt) (Err TooLarge)

-- What entering a value answers, by what stands at its key: nothing, the same value or another.
abbrev pub entry_answer : Option Value → Value → ℕ → Added
entry_answer absent v n = added n
entry_answer (some w) v n = cond (same w v) (Ok tt) (Err Clash)

-- ---- what is asked

-- The record at x lies outside the 512 bytes at a place.
abbrev pub Apart : List ℕ → ℕ → ℕ → Type 0
Apart s at x = (x + word s x ≤ at) ⊎ (at + value_limit ≤ x)

-- A collection of a kind is being built at a place, and an item for it stands at x.
pub record Room (k : Kind) (s : List ℕ) (at x : ℕ) : Type 0 where
  pub held : HoldsKind k s at
  pub room : at + value_limit ≤ length s
  pub item : Holds s x
  pub apart : Apart s at x

-- A map is being built at a place, and a key and a value for it stand at x and y.
pub record EntryRoom (s : List ℕ) (at x y : ℕ) : Type 0 where
  pub key : Room map s at x
  pub value : Room map s at y

-- ---- what is promised

-- The collection at a place, whose items were vs, has the items ws now; where these are vs, nothing changed.
pub record Builds (k : Kind) (s t : List ℕ) (at : ℕ) (vs ws : Items) (r : Added) : Type 0 where
  pub answers : r ≡ added (size (collection k ws))
  pub made : r ≡ Ok tt → At t at (collection k ws)
  pub still : ws ≡ vs → t ≡ s

-- The item at x was added to the collection at a place.
pub record Adds (k : Kind) (add : Items → Value → Items) (s t : List ℕ) (at x : ℕ) (r : Added) : Type 0 where
  pub frame : Outside s t at (at + value_limit)
  pub refused : (e : Refusal) → r ≡ Err e → t ≡ s
  pub right : (vs : Items) (v : Value) → At s at (collection k vs) → At s x v → Builds k s t at vs (add vs v) r

-- The item at x was added at the end of the sequence at a place.
abbrev pub Appends : List ℕ → List ℕ → ℕ → ℕ → Added → Type 0
Appends = Adds sequence snoc

-- The item at x was added, in order, to the set at a place.
abbrev pub Inserts : List ℕ → List ℕ → ℕ → ℕ → Added → Type 0
Inserts = Adds set (λ (vs : Items) (v : Value). insert v vs)

-- The map at a place, whose items were vs, has k mapped to v now.
pub record Maps (s t : List ℕ) (at : ℕ) (vs : Items) (k v : Value) (r : Added) : Type 0 where
  pub answers : r ≡ entry_answer (lookup k vs) v (size (collection map (enter k v vs)))
  pub made : r ≡ Ok tt → At t at (collection map (enter k v vs))
  pub still : enter k v vs ≡ vs → t ≡ s

-- The entry of the key at x and the value at y was put in order into the map at a place.
pub record Enters (s t : List ℕ) (at x y : ℕ) (r : Added) : Type 0 where
  pub frame : Outside s t at (at + value_limit)
  pub refused : (e : Refusal) → r ≡ Err e → t ≡ s
  pub right : (vs : Items) (k v : Value) → At s at (collection map vs) → At s x k → At s y v → Maps s t at vs k v r

-- An empty collection stands at a place, of any kind that may be empty.
pub record Empties (s t : List ℕ) (at kind : ℕ) : Type 0 where
  pub frame : Outside s t at (at + 4)
  pub right : (k : Kind) → kind ≡ number k → Shaped k none → At t at (collection k none)

-- The collection at a place is of another kind, if its items are shaped as that kind asks.
pub record Retags (s t : List ℕ) (at kind : ℕ) : Type 0 where
  pub frame : Outside s t at (at + 4)
  pub right : (k l : Kind) (vs : Items) → At s at (collection k vs) → kind ≡ number l → Shaped l vs → At t at (collection l vs)
