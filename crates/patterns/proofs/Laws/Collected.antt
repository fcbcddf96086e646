-- A collection by its units: the members of a set and the entries of a map, at once.
use Rattle.std.specs.Prelude.{◌≡◌, refl, true, ◌↔◌, ◌*◌, length}
use Rattle.std.proofs.Common.{sym, subst, ◌∙◌, inl, inr, arith}
use Rattle.std.proofs.Math.Path.{ap}
use mathlib.Core.List.{List, [], ◌∷◌, map, map-id}
use Rattle.prelude.proofs.Absurd.{true_false}
use Rattle.prelude.specs.Membership.{In}
use Rattle.std.specs.declared.cmp.Ordering.TheVariants.{Less}
use Rattle.values.specs.Value.{Kind, set, sequence, map as mapping, tuple, Value, more, every_other, keys, order, Before, Ascending, PairedFrom, Paired, Shaped}
use Rattle.values.specs.Entries.{Entry, flat}
use Rattle.patterns.specs.Ways.{proper_splits, orders}
use Rattle.patterns.specs.Units.{Parted, Permuted}
use Rattle.patterns.specs.Pattern.{list_of, items_of, entries_of, UnitOf, units_of, items_in, halves_in, is_unordered, arrangements, divisions}
use Rattle.patterns.specs.Relation.{Arranged, Divided}
use Rattle.patterns.specs.Nodes.{width}

-- ---- units and items

entries_flat : (es : List Entry) → entries_of (list_of (flat es)) ≡ es
unfolding entries_of list_of flat
entries_flat [] = refl
entries_flat (e ∷ es) = ap (λ (l : List Entry). e ∷ l) (entries_flat es)

flat_entries : (vs : List Value) → Paired (items_of vs) → list_of (flat (entries_of vs)) ≡ vs
unfolding entries_of list_of items_of flat PairedFrom
flat_entries [] p = refl
flat_entries (k ∷ []) p = absurd p
flat_entries (k ∷ v ∷ vs) p = ap (λ (l : List Value). k ∷ v ∷ l) (flat_entries vs p)

flat_length : (es : List Entry) → length (list_of (flat es)) ≡ 2 * length es
unfolding list_of flat
flat_length [] = refl
flat_length (e ∷ es) = let n = flat_length es in omega arith

-- THEOREM: the units of the items of units are these, and the items of the units of a value's items are these
pub units_items : (k : Kind) (us : List (UnitOf k)) → units_of k (items_in k us) ≡ us
units_items set us = refl
units_items sequence us = refl
units_items mapping us = entries_flat us
units_items tuple us = refl

pub items_units : (k : Kind) (vs : List Value) → Shaped k (items_of vs) → items_in k (units_of k vs) ≡ vs
items_units set vs h = refl
items_units sequence vs h = refl
items_units mapping vs h = flat_entries vs h.0
items_units tuple vs h = refl

pub items_length : (k : Kind) (us : List (UnitOf k)) → length (items_in k us) ≡ width k * length us
items_length set us = omega arith
items_length sequence us = omega arith
items_length mapping us = flat_length us
items_length tuple us = omega arith

-- ---- units in order

-- What a unit stands in order by: a member by itself, an entry by its key.
abbrev pub first_of : (k : Kind) → UnitOf k → Value
first_of set u = u
first_of sequence u = u
first_of mapping e = e.key
first_of tuple u = u

-- Strictly ascending by what each stands in order by.
abbrev pub Led : {A : Type 0} → (A → Value) → List A → Type 0
Led first us = Ascending (items_of (map first us))

module _ {A : Type 0} (first : A → Value) where
  before_each : (v : Value) (us : List A) → Before v (items_of (map first us)) → (w : A) → In w us → order v (first w) ≡ Less
  unfolding Before items_of
  before_each v [] h w i = absurd i
  before_each v (u ∷ us) h w (inl e) = ap (λ (x : A). order v (first x)) e ∙ h.0
  before_each v (u ∷ us) h w (inr i) = before_each v us h.1 w i

  -- the first is lower than all others, and these are ascending
  pub led_first : (u : A) (us : List A) → Led first (u ∷ us) → ((w : A) → In w us → order (first u) (first w) ≡ Less) × Led first us
  unfolding Ascending items_of
  led_first u us h = (before_each (first u) us h.0, h.1)

keys_listed : (es : List Entry) → keys (items_of (list_of (flat es))) ≡ items_of (map (λ e. e.key) es)
unfolding every_other items_of list_of flat
keys_listed [] = refl
keys_listed (e ∷ es) = ap (more e.key) (keys_listed es)

-- THEOREM: the members of a set and the entries of a map stand in strictly ascending order
pub shaped_led : (k : Kind) → is_unordered k ≡ true → (us : List (UnitOf k)) → Shaped k (items_of (items_in k us)) → Led (first_of k) us
shaped_led set u us h = subst (λ (l : List Value). Ascending (items_of l)) (sym (map-id us)) h
shaped_led sequence u us h = true_false (sym u)
shaped_led mapping u us h = subst Ascending (keys_listed us) h.1
shaped_led tuple u us h = true_false (sym u)

-- ---- what the parts meet, by units

-- THEOREM: members and entries are paired in every order, and split in every way into two halves that are not empty
pub arrangements_units : (k : Kind) → is_unordered k ≡ true → (us : List (UnitOf k)) → arrangements k (items_in k us) ≡ map (items_in k) (orders us)
arrangements_units set u us = sym (map-id (orders us))
arrangements_units sequence u us = true_false (sym u)
arrangements_units mapping u us = ap (λ (es : List Entry). map (items_in mapping) (orders es)) (entries_flat us)
arrangements_units tuple u us = true_false (sym u)

pub divisions_units : (k : Kind) → is_unordered k ≡ true → (us : List (UnitOf k)) → divisions k (items_in k us) ≡ map (halves_in k) (proper_splits us)
divisions_units set u us = sym (map-id (proper_splits us))
divisions_units sequence u us = true_false (sym u)
divisions_units mapping u us = ap (λ (es : List Entry). map (halves_in mapping) (proper_splits es)) (entries_flat us)
divisions_units tuple u us = true_false (sym u)

-- the same of the relations
pub arranged_units : (k : Kind) → is_unordered k ≡ true → (vs ws : List Value) → Arranged k vs ws ↔ ((us : List (UnitOf k)) × Permuted (units_of k vs) us × (ws ≡ items_in k us))
arranged_units set u vs ws = (λ h. (ws, h, refl), λ (us, h, e). rw e h)
arranged_units sequence u vs ws = true_false (sym u)
arranged_units mapping u vs ws = (λ h. h, λ h. h)
arranged_units tuple u vs ws = true_false (sym u)

pub divided_units : (k : Kind) → is_unordered k ≡ true → (vs ls rs : List Value)
    → Divided k vs ls rs ↔ ((ms ns : List (UnitOf k)) × Parted (units_of k vs) ms ns × (ls ≡ items_in k ms) × (rs ≡ items_in k ns))
divided_units set u vs ls rs = (λ h. (ls, rs, h, refl, refl), λ (ms, ns, h, d, e). rw (d, e) h)
divided_units sequence u vs ls rs = true_false (sym u)
divided_units mapping u vs ls rs = (λ h. h, λ h. h)
divided_units tuple u vs ls rs = true_false (sym u)
