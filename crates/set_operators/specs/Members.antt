-- What going over items one by one asks and promises: tests of them all, choosing among them, and merging two sets.
use Rattle.std.specs.Prelude.{◌≡◌, Bool, true, false, not, cond, List, ℕ, ◌+◌, ◌≤◌, length}
use Rattle.integers.specs.Bytes.{word}
use Rattle.std.specs.declared.cmp.Ordering.{Ordering}
use Rattle.std.specs.declared.cmp.Ordering.TheVariants.{Less, Greater}
use Rattle.values.specs.Value.{set, sequence, Value, collection, Items, none, more, order, value_limit}
use Rattle.values.specs.Items.{is_member, snoc}
use Rattle.values.specs.Place.{At, ItemsAt, Outside}
use Rattle.collections.specs.Building.{Added}
use Rattle.collections.specs.Finding.{HoldsKind}
use Rattle.collections.specs.Building.{Room}
use Rattle.operators.specs.Gather.{every_item, keep_items, items_in, is_kind}
use Rattle.operators.specs.Sets.{unite, is_subset}
use Rattle.gathering.specs.Inserting.{Grown}

-- ---- tests of all items from a place up to another

-- Sets stand from a place up to another.
pub record HoldsSets (s : List ℕ) (from to : ℕ) : Type 0 where
  pub items : Items
  pub here : ItemsAt s from to items
  pub sets : every_item (is_kind set) items ≡ true

-- v is a member of each of these sets.
abbrev pub in_all : Value → Items → Bool
in_all v ws = every_item (λ w. is_member v (items_in w)) ws

-- r says whether the value at x is a member of each of the sets from a place up to another.
abbrev pub InAll : List ℕ → ℕ → ℕ → ℕ → Bool → Type 0
InAll s x from to r = (v : Value) (ws : Items) → At s x v → ItemsAt s from to ws → r ≡ in_all v ws

-- r says whether all items from a place up to another are members of the set at a place.
abbrev pub AllIn : List ℕ → ℕ → ℕ → ℕ → Bool → Type 0
AllIn s from to at r = (vs ws : Items) → ItemsAt s from to vs → At s at (collection set ws) → r ≡ is_subset vs ws

-- ---- choosing

-- The item at x can go to the end of the sequence at a place.
pub record Appendable (s : List ℕ) (at x : ℕ) : Type 0 where
  pub room : Room sequence s at x
  pub fits : word s at + word s x ≤ value_limit

-- The item at x is at the end of the sequence at a place, if wanted.
pub record AppendsIf (s t : List ℕ) (at x : ℕ) (wanted : Bool) : Type 0 where
  pub frame : Outside s t at (at + value_limit)
  pub right : (us : Items) (v : Value) → At s at (collection sequence us) → At s x v → At t at (collection sequence (cond wanted (snoc us v) us))

-- Whether a test comes out as wanted.
abbrev pub as_wanted : Bool → Bool → Bool
as_wanted true b = b
as_wanted false b = not b

-- The members of vs that are in each of the sets ws, or those that are not in each.
abbrev pub wanted_of : Bool → Items → Items → Items
wanted_of wanted vs ws = keep_items (λ v. as_wanted wanted (in_all v ws)) vs

-- There is room at a place for members of the set at x; it and the sets from a up to b stand below.
pub record Choice (s : List ℕ) (x a b at : ℕ) : Type 0 where
  pub held : HoldsKind set s x
  pub below : x + word s x ≤ at
  pub others : HoldsSets s a b
  pub under : b ≤ at
  pub room : at + value_limit ≤ length s

-- At a place stands the set of the members of the set at x that are wanted.
pub record Chosen (s t : List ℕ) (x a b at : ℕ) (wanted : Bool) : Type 0 where
  pub frame : Outside s t at (at + value_limit)
  pub right : (vs ws : Items) → At s x (collection set vs) → ItemsAt s a b ws → At t at (collection set (wanted_of wanted vs ws))

-- ---- merging

-- On which side the least member left is, of ascending members: Less says the left, Greater the right, Equal both. A side at its end has none.
abbrev pub least_on : Items → Items → Ordering
least_on vs none = Less
least_on none (more w ws) = Greater
least_on (more v vs) (more w ws) = order v w

-- o says on which of two sides, each from a place up to its end, the least member left is.
abbrev pub LeastOn : List ℕ → ℕ → ℕ → ℕ → ℕ → Ordering → Type 0
LeastOn s a a' b b' o = (vs ws : Items) → ItemsAt s a a' vs → ItemsAt s b b' ws → o ≡ least_on vs ws

-- There is room at a place for the union of the sets at x and y, which stand below.
pub record Merge (s : List ℕ) (x y at : ℕ) : Type 0 where
  pub left : HoldsKind set s x
  pub right : HoldsKind set s y
  pub left_below : x + word s x ≤ at
  pub right_below : y + word s y ≤ at
  pub room : at + value_limit ≤ length s

-- At a place stands the union of the sets at x and y; refused exactly where that is over 512 bytes.
pub record Merged (s t : List ℕ) (x y at : ℕ) (r : Added) : Type 0 where
  pub frame : Outside s t at (at + value_limit)
  pub right : (vs ws : Items) → At s x (collection set vs) → At s y (collection set ws) → Grown t at (unite vs ws) r
