-- What inserting all items from a place up to another into a set asks and promises.
use Rattle.std.specs.Prelude.{◌≡◌, List, ◌⊎◌, ℕ, ◌+◌, ◌≤◌, length}
use Rattle.values.specs.Value.{set, collection, Items, size, value_limit}
use Rattle.values.specs.Place.{At, ItemsAt, Outside}
use Rattle.collections.specs.Building.{Added}
use Rattle.std.specs.Prelude.{Ok}
use Rattle.collections.specs.Finding.{HoldsKind}
use Rattle.collections.specs.Building.{added}
use Rattle.operators.specs.Gather.{insert_all}

-- A set is being built at a place, and what goes into it stands elsewhere, from a place up to another.
pub record Growing (s : List ℕ) (from to at : ℕ) : Type 0 where
  pub held : HoldsKind set s at
  pub room : at + value_limit ≤ length s
  pub apart : (to ≤ at) ⊎ (at + value_limit ≤ from)

-- The members of the set at a place are us now; refused exactly where that is over 512 bytes.
pub record Grown (t : List ℕ) (at : ℕ) (us : Items) (r : Added) : Type 0 where
  pub answers : r ≡ added (size (collection set us))
  pub made : r ≡ Ok tt → At t at (collection set us)

-- What is gathered of the items went into the set at a place.
pub record InsertsAll (gathered : Items → Items) (s t : List ℕ) (from to at : ℕ) (r : Added) : Type 0 where
  pub frame : Outside s t at (at + value_limit)
  pub right : (vs ws : Items) → At s at (collection set vs) → ItemsAt s from to ws → Grown t at (insert_all vs (gathered ws)) r

-- The items as they are, where nothing else is gathered of them.
abbrev pub themselves : Items → Items
themselves ws = ws
