-- What a run denotes, and what the functions on runs ask and promise.
use Rattle.parts.specs.declared.How.TheVariants.{Units}
use Rattle.std.specs.Prelude.{◌≡◌, List, [], ◌∷◌, ℕ, ◌+◌, ◌-◌, ◌%◌, ◌≤◌, ◌<◌, length, drop}
use Rattle.std.specs.declared.cmp.Ordering.{Ordering}
use Rattle.integers.specs.Bytes.{word}
use Rattle.values.specs.Value.{Kind, Value, collection, order_items, value_limit}
use Rattle.values.specs.Place.{ItemsAt, Outside}
use Rattle.patterns.specs.Pattern.{items_of}
use Rattle.parts.specs.declared.Part.{Part}
use Rattle.parts.specs.declared.runs.Run.{Run}
use Rattle.parts.specs.Chosen.{every_one, chosen}
use Rattle.parts.specs.Part.{PartIs, end_of}

-- The first item, if there is one, is chosen.
abbrev pub Ready : ℕ → List Value → Type 0
Ready m [] = Unit {0}
Ready m (v ∷ vs) = m % 2 ≡ 1

-- A run has the items vs: those that its mask chooses, of all between its two places. It stands at the first of them.
pub record RunIs (s : List ℕ) (r : Run) (vs : List Value) : Type 0 where
  pub all : List Value
  pub here : ItemsAt s r.from r.to (items_of all)
  pub small : r.mask ≤ every_one
  pub stands : Ready r.mask all
  pub is : vs ≡ chosen r.mask all

-- A run that has some list of items.
pub record RunHeld (s : List ℕ) (r : Run) : Type 0 where
  pub items : List Value
  pub here : RunIs s r items

-- A run that has at least one item.
pub record MoreHeld (s : List ℕ) (r : Run) : Type 0 where
  pub first : Value
  pub others : List Value
  pub here : RunIs s r (first ∷ others)

-- Items stand between the two places.
pub record Startable (s : List ℕ) (r : Run) : Type 0 where
  pub items : List Value
  pub here : ItemsAt s r.from r.to (items_of items)
  pub small : r.mask ≤ every_one

-- q is r from the first item on that is chosen
pub record ReadyRun (s : List ℕ) (r q : Run) : Type 0 where
  pub to : q.to ≡ r.to
  pub from : r.from ≤ q.from
  pub inside : q.from ≤ q.to
  pub right : (vs : List Value) → ItemsAt s r.from r.to (items_of vs) → RunIs s q (chosen r.mask vs)

-- q is r without its first item
pub record RestOf (s : List ℕ) (r q : Run) : Type 0 where
  pub to : q.to ≡ r.to
  pub from : r.from < q.from
  pub past : r.from + word s r.from ≤ q.from
  pub inside : q.from ≤ q.to
  pub every : r.mask ≡ every_one → q.mask ≡ every_one
  pub right : (v : Value) (vs : List Value) → RunIs s r (v ∷ vs) → RunIs s q vs

-- r has the items of the collection that p denotes
pub record RunOf (s : List ℕ) (p : Part) (r : Run) : Type 0 where
  pub ends : r.to ≤ end_of s p
  pub short : r.to + 4 ≤ r.from + value_limit
  pub every : (p.how ≡ Units → ⊥) → r.mask ≡ every_one
  pub right : (k : Kind) (vs : List Value) → PartIs s p (collection k (items_of vs)) → RunIs s r vs

-- n is the number of items
abbrev pub CountOf : List ℕ → Run → ℕ → Type 0
CountOf s r n = (vs : List Value) → RunIs s r vs → n ≡ length vs

-- A run has at least k items.
pub record SkipHeld (s : List ℕ) (r : Run) (k : ℕ) : Type 0 where
  pub items : List Value
  pub here : RunIs s r items
  pub enough : k ≤ length items

-- q is r without its first k items
pub record Skipped (s : List ℕ) (r : Run) (k : ℕ) (q : Run) : Type 0 where
  pub to : q.to ≡ r.to
  pub from : r.from ≤ q.from
  pub every : r.mask ≡ every_one → q.mask ≡ every_one
  pub right : (vs : List Value) → RunIs s r vs → RunIs s q (drop k vs)

-- o is the order of the items of two runs
abbrev pub OrderedRuns : List ℕ → Run → Run → Ordering → Type 0
OrderedRuns s a b o = (vs ws : List Value) → RunIs s a vs → RunIs s b ws → o ≡ order_items (items_of vs) (items_of ws)

-- The items lie below a place, with room there.
pub record PutHeld (s : List ℕ) (r : Run) (to : ℕ) : Type 0 where
  pub items : List Value
  pub here : RunIs s r items
  pub below : r.to ≤ to
  pub room : to + (r.to - r.from) ≤ length s

-- t is s with the records of the items from a place up to e
pub record PutRun (s t : List ℕ) (r : Run) (to e : ℕ) : Type 0 where
  pub outside : Outside s t to e
  pub few : e ≤ to + (r.to - r.from)
  pub right : (vs : List Value) → RunIs s r vs → ItemsAt t to e (items_of vs)
