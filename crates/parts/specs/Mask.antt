-- What the functions on masks promise.
use Rattle.std.specs.Prelude.{◌≡◌, true, List, ℕ, zero, suc, ◌+◌, ◌*◌, ◌-◌, ◌/◌, ◌%◌, ◌^◌, ◌≤◌, ◌<◌, length, drop}
use Rattle.std.specs.declared.cmp.Ordering.{Ordering}
use Rattle.values.specs.Value.{Kind, number, Shaped, order_items}
use Rattle.patterns.specs.Pattern.{items_of, UnitOf, items_in, is_unordered}
use Rattle.parts.specs.declared.masks.Dealing.{Dealing}
use Rattle.patterns.specs.Nodes.{width}
use Rattle.parts.specs.Chosen.{keep, every_one, split_at}

-- r has k bits, all ones
pub record Full (k r : ℕ) : Type 0 where
  pub power : r + 1 ≡ 2 ^ k
  pub small : r < 128

-- Of what h chooses of some units, l chooses the left half of a split, and what is left of h the right half; e is what is left of the number d
-- of a split after the number of that one.
pub record Dealt {A : Type 0} (d h l e : ℕ) (us : List A) : Type 0 where
  pub number : ℕ
  pub below : number < 2 ^ length (keep h us)
  pub is : d ≡ e * 2 ^ length (keep h us) + number
  pub left : keep l us ≡ (split_at (keep h us) number).left
  pub right : keep (h - l) us ≡ (split_at (keep h us) number).right

-- r has one bit of m more dealt out than x
pub record Deals (m : ℕ) (x r : Dealing) : Type 0 where
  pub low : r.left ≤ m
  pub more : (d : ℕ) (k : Kind) (us : List (UnitOf k)) → m < 2 ^ length us → Dealt d (m / 2) x.left x.rest (drop 1 us) → Dealt d m r.left r.rest us

-- r chooses the left half of the d-th split of what m chooses, and what is left of m the right half
pub record Spread (m d r : ℕ) : Type 0 where
  pub low : r ≤ m
  pub left : (k : Kind) (us : List (UnitOf k)) → m < 2 ^ length us → d < 2 ^ length (keep m us) → keep r us ≡ (split_at (keep m us) d).left
  pub right : (k : Kind) (us : List (UnitOf k)) → m < 2 ^ length us → d < 2 ^ length (keep m us) → keep (m - r) us ≡ (split_at (keep m us) d).right

-- o is the order of the sets or maps that two masks choose of one
abbrev pub OrderedMasks : ℕ → ℕ → Ordering → Type 0
OrderedMasks a b o =
    (k : Kind) → is_unordered k ≡ true → (us : List (UnitOf k)) → a < 2 ^ length us → b < 2 ^ length us → Shaped k (items_of (items_in k us))
    → o ≡ order_items (items_of (items_in k (keep a us))) (items_of (items_in k (keep b us)))

-- ---- the items of units

-- r is the number of items of a unit of the kind that has this number
abbrev pub WidthOf : ℕ → ℕ → Type 0
WidthOf kind r = (k : Kind) → kind ≡ number k → r ≡ width k

-- The n lowest bits of a mask, each of them twice.
unfoldable pub doubled : ℕ → ℕ → ℕ
doubled zero m = 0
doubled (suc n) m = 4 * doubled n (m / 2) + 3 * (m % 2)

-- Of the items of units r chooses those of the units that m chooses.
pub record ChoosesItems (k : Kind) (m r : ℕ) (us : List (UnitOf k)) : Type 0 where
  pub below : r < 2 ^ length (items_in k us)
  pub is : keep r (items_in k us) ≡ items_in k (keep m us)

-- So it is of the units of a set or map whose kind has this number.
pub record ItemMask (kind m r : ℕ) : Type 0 where
  pub small : r < every_one
  pub right : (k : Kind) → is_unordered k ≡ true → kind ≡ number k → (us : List (UnitOf k)) → m < 2 ^ length us → ChoosesItems k m r us
