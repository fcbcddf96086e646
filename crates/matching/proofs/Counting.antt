-- How many ways there are, by the kind of the pattern and the units of the value.
use mathlib.Core.Path.{◌≡◌, refl, sym, ap, subst, ◌∙◌}
use mathlib.Core.Bool.{Bool, true, false, ◌||◌, cond}
use mathlib.Core.Logic.{⊎_elim}
use mathlib.Core.Option.{none as absent, some}
use mathlib.Core.List.{List, [], ◌∷◌, map}
use Prim.Native.Nat.{ℕ, ◌+◌, ◌*◌, ◌-◌, ◌/◌, ◌^◌, ◌≤◌, ◌<◌}
use native.Mathlib.Nat.{div-lt_iff_lt-mul, mul-div_cancel_left}
use native.Mathlib.Omega.{arith}
use lib.Dec.{eqb, ltb}
use lib.ListN.{length, length-map}
use lib.Pow.{pow_mono}
use borrow.Author.Tests.{eq-eqb, ne_eqb, eqb-true, lt-ltb, le-ltb}
use Rattle.prelude.proofs.Absurd.{true_false}
use Rattle.prelude.proofs.Truth.{by_test, or_cases, or_false_left, or_false_right}
use Rattle.values.specs.Value.{Kind, set, sequence, map as mapping, tuple, number, kind_of, Value, boolean, integer, quote, collection, WellFormed}
use Rattle.values.proofs.Order.{number_low, number_high, number_inj}
use Rattle.values.proofs.Encoding.{collection_size, count_sizes}
use Rattle.values.proofs.Records.{collection_shaped}
use Rattle.parts.specs.declared.Part.{Part}
use Rattle.parts.specs.Part.{PartIs, PartHeld}
use Rattle.parts.specs.Contract.{KindOfPart, CollectionHeld, CountOfPart}
use Rattle.parts.specs.Mask.{Full, WidthOf}
use Rattle.parts.proofs.Laws.{part_well_formed}
use Rattle.parts.proofs.Chosen.{proper_none, proper_length, cuts_length}
use Rattle.patterns.specs.Ways.{Halves, proper_splits, cuts, orders}
use Rattle.patterns.specs.Pattern.{list_of, items_of, contents, UnitOf, units_of, items_in, halves_in, is_unordered, arrangements, divisions, most_split, is_too_large}
use Rattle.patterns.proofs.Laws.Matched.{items_list, list_items}
use Rattle.patterns.proofs.Laws.Collected.{units_items, items_units, items_length, arrangements_units, divisions_units}
use Rattle.patterns.proofs.Laws.Plain.{count_list}
use Rattle.patterns.specs.Nodes.{collection_of, width, is_halved, meetings, is_large, both_halves}
use Rattle.patterns.proofs.Laws.Orders.{orders_length}
use Rattle.patterns.specs.Ways.{factorial}
use Rattle.std.specs.Prelude.{Result, Ok, Err}
use Rattle.matching.specs.declared.nodes.Misfit.{Misfit}
use Rattle.matching.specs.declared.nodes.Misfit.TheVariants.{Unfit, TooLarge}
use Rattle.matching.specs.Node.{is_split, is_paired, SplitsAs, MeetsAs, Meets}

-- ---- the contents of a value, by its kind

pub contents_other : (k : Kind) (v : Value) → (kind_of v ≡ number k → ⊥) → contents k v ≡ absent
contents_other k (boolean b) f = refl
contents_other k (integer z) f = refl
contents_other k (quote n) f = refl
contents_other k (collection l vs) f = rw (ne_eqb (number k) (number l) (λ e. f (sym e)))

-- The units of a value of the kind.
pub record Has (k : Kind) (v : Value) : Type 0 where
  pub units : List (UnitOf k)
  pub has : contents k v ≡ some (items_in k units)
  pub is : v ≡ collection k (items_of (items_in k units))

pub contents_same : (k : Kind) (v : Value) → WellFormed v → kind_of v ≡ number k → Has k v
contents_same k (boolean b) f e = absurd (omega (arith, number_low k))
contents_same k (integer z) f e = absurd (omega (arith, number_low k))
contents_same k (quote n) f e = absurd (omega (arith, number_high k))
contents_same k (collection l vs) f e =
    let q : k ≡ l = number_inj k l (sym e) in
    let g : items_in k (units_of k (list_of vs)) ≡ list_of vs = items_units k (list_of vs) (rw (q, items_list vs) (collection_shaped f)) in
    record {
      units = units_of k (list_of vs);
      has = rw (eq-eqb (number k) (number l) (sym e)) (ap some (sym g));
      is = rw (g, sym q, items_list vs);
    }

-- a well-formed collection has at most 127 items
pub few_items : (k : Kind) (vs : List Value) → WellFormed (collection k (items_of vs)) → length vs ≤ 127
few_items k vs h =
    let s = collection_size k (items_of vs) in
    let c = count_sizes (items_of vs) in
    let n = count_list (items_of vs) in
    let l = ap length (list_items vs) in
    omega (arith, h.short)

-- a unit has one item or two
pub width_range : (k : Kind) → (0 < width k) × (width k ≤ 2)
width_range set = (omega arith, omega arith)
width_range sequence = (omega arith, omega arith)
width_range mapping = (omega arith, omega arith)
width_range tuple = (omega arith, omega arith)

-- the number of units, from that of the items
pub units_count : (k : Kind) (us : List (UnitOf k)) → length (items_in k us) / width k ≡ length us
units_count k us = ap (λ (n : ℕ). n / width k) (items_length k us) ∙ mul-div_cancel_left (length us) (width_range k).0

-- at most four units, by the number of their items
pub four_units : (k : Kind) (n w : ℕ) → n ≤ 4 * width k → w ≡ width k → n / w ≤ 4
four_units k n w l e =
    let p = (width_range k).0 in
    let m : n / w < 5 = (div-lt_iff_lt-mul {k = w} {x = n} {y = 5} (omega arith)).1 (omega arith) in
    omega arith

-- ---- by kind

-- what holds of two kinds holds of one that is either of them
pub either : (P : ℕ → Type 0) (c m l : ℕ) → P m → P l → eqb c m || eqb c l ≡ true → P c
either P c m l a b e = ⊎_elim (λ d. subst P (sym (eqb-true c m d)) a) (λ d. subst P (sym (eqb-true c l d)) b) (or_cases (eqb c m) (eqb c l) e)

module _ (c : ℕ) where
  pub split_kind : is_split c ≡ true → (is_halved c ≡ true) × (is_unordered (collection_of c) ≡ true)
  split_kind e = either (λ x. (is_halved x ≡ true) × (is_unordered (collection_of x) ≡ true)) c 38 42 (refl, refl) (refl, refl) e

  paired_kind : is_paired c ≡ true → (is_halved c ≡ false) × (is_unordered (collection_of c) ≡ true)
  paired_kind e = either (λ x. (is_halved x ≡ false) × (is_unordered (collection_of x) ≡ true)) c 37 41 (refl, refl) (refl, refl) e

  module _ (not_split : is_split c ≡ false) where
    pub each_kind : (c ≡ 40 → ⊥) → is_halved c ≡ false
    each_kind f = rw (or_false_left (eqb c 38) (eqb c 42) not_split, or_false_right (eqb c 38) (eqb c 42) not_split, ne_eqb c 40 f)

    pub ordered_kind : is_paired c ≡ false → is_unordered (collection_of c) ≡ false
    ordered_kind not_paired =
        let set_off : eqb c 37 || eqb c 38 ≡ false = rw (or_false_left (eqb c 37) (eqb c 41) not_paired, or_false_left (eqb c 38) (eqb c 42) not_split) in
        let map_off : eqb c 41 || eqb c 42 ≡ false = rw (or_false_right (eqb c 37) (eqb c 41) not_paired, or_false_right (eqb c 38) (eqb c 42) not_split) in
        by_test (eqb c 36) (λ t. rw t) (λ t. rw (t, set_off, map_off))

-- ---- what the parts meet

pub pick_true : {A : Type 0} {t : Bool} (xs : List A) → t ≡ true → cond t xs [] ≡ xs
pick_true xs e = rw e

-- in their order, the items are met in one way
pub in_turn : (k : Kind) → is_unordered k ≡ false → (vs : List Value) → arrangements k vs ≡ vs ∷ []
in_turn set u vs = true_false u
in_turn sequence u vs = refl
in_turn mapping u vs = true_false u
in_turn tuple u vs = refl

module _ (c n : ℕ) (v : Value) where
  pub none_meets : contents (collection_of c) v ≡ absent → MeetsAs c n v (Err Unfit)
  none_meets e = by_test (is_halved c) (λ h. (rw (h, e), rw (h, e))) (λ h. (rw h, rw (h, e)))

  module _ (vs : List Value) (f : contents (collection_of c) v ≡ some vs) where
    meets_halves : is_halved c ≡ true
        → (meetings c n v ≡ map (both_halves (collection_of c)) (divisions (collection_of c) vs)) × (is_large c v ≡ is_too_large (collection_of c) (some vs))
    meets_halves h = (rw (h, f), rw (h, f))

    pub meets_each : is_halved c ≡ false → (meetings c n v ≡ cond (eqb n (length vs)) (arrangements (collection_of c) vs) []) × (is_large c v ≡ false)
    meets_each h = (rw (h, f), rw h)

    pub meets_cuts : c ≡ 40 → (meetings c n v ≡ map (both_halves sequence) (cuts vs)) × (is_large c v ≡ false)
    meets_cuts e = let m = meets_halves (rw e) in (m.0 ∙ rw e, m.1 ∙ rw e)

  module _ (us : List (UnitOf (collection_of c))) (f : contents (collection_of c) v ≡ some (items_in (collection_of c) us)) where
    pub meets_splits : is_split c ≡ true
        → (meetings c n v ≡ map (both_halves (collection_of c)) (map (halves_in (collection_of c)) (proper_splits us))) × (is_large c v ≡ ltb most_split (length us))
    meets_splits e =
        let (h, u) = split_kind c e in
        let m = meets_halves (items_in (collection_of c) us) f h in
        (m.0 ∙ ap (map (both_halves (collection_of c))) (divisions_units (collection_of c) u us), m.1 ∙ rw (u, units_items (collection_of c) us))

    pub meets_orders : is_paired c ≡ true
        → (meetings c n v ≡ cond (eqb n (length (items_in (collection_of c) us))) (map (items_in (collection_of c)) (orders us)) []) × (is_large c v ≡ false)
    meets_orders e =
        let (h, u) = paired_kind c e in
        let m = meets_each (items_in (collection_of c) us) f h in
        (m.0 ∙ ap (λ (l : List (List Value)). cond (eqb n (length (items_in (collection_of c) us))) l []) (arrangements_units (collection_of c) u us), m.1)

-- ---- what `meet` answers

module _ (c n : ℕ) (s : List ℕ) (p : Part) (k : ℕ) (kind : KindOfPart s p k) where
  pub kind_unfit : (k ≡ number (collection_of c) → ⊥) → Meets c n s p (Err Unfit)
  kind_unfit f v h = none_meets c n v (contents_other (collection_of c) v (λ e. f (kind v h ∙ e)))

  module _ (same : k ≡ number (collection_of c)) where
    pub has_units : (v : Value) → PartIs s p v → Has (collection_of c) v
    has_units v h = contents_same (collection_of c) v (part_well_formed h) (sym (kind v h) ∙ same)

    abbrev items_of_part : (v : Value) → PartIs s p v → List Value
    items_of_part v h = items_in (collection_of c) (has_units v h).units

    pub is_held : PartHeld s p → CollectionHeld s p
    is_held h = record { kind = collection_of c; items = items_of_part h.value h.here; here = subst (PartIs s p) (has_units h.value h.here).is h.here }

    module _ (count : ℕ) (counted : CountOfPart s p count) where
      counts : (v : Value) (h : PartIs s p v) → count ≡ length (items_of_part v h)
      counts v h = counted (collection_of c) (items_of_part v h) (subst (PartIs s p) (has_units v h).is h)

      pub count_few : PartHeld s p → count ≤ 127
      count_few h =
          let fine = subst WellFormed (has_units h.value h.here).is (part_well_formed h.here) in
          omega (arith, counts h.value h.here, few_items (collection_of c) (items_of_part h.value h.here) fine)

      -- as many units as items, by the width of a unit
      pub units_are : (w : ℕ) → WidthOf k w → (v : Value) (h : PartIs s p v) → count / w ≡ length (has_units v h).units
      units_are w wide v h =
          ap (λ (x : ℕ). count / x) (wide (collection_of c) same)
          ∙ ap (λ (x : ℕ). x / width (collection_of c)) (counts v h)
          ∙ units_count (collection_of c) (has_units v h).units

      pub by_cuts : c ≡ 40 → PartHeld s p → Meets c n s p (Ok (count + 1))
      by_cuts e held v h =
          let a = meets_cuts c n v (items_of_part v h) (has_units v h).has e in
          let len : length (meetings c n v) ≡ count + 1 =
          ap length a.0 ∙ length-map (cuts (items_of_part v h)) (both_halves sequence) ∙ cuts_length (items_of_part v h) ∙ omega (arith, counts v h) in
          (a.1, len, omega arith, omega (arith, count_few held))

      module _ (each : is_halved c ≡ false) where
        pub count_unfit : (count ≡ n → ⊥) → Meets c n s p (Err Unfit)
        count_unfit d v h =
            let a = meets_each c n v (items_of_part v h) (has_units v h).has each in
            (a.1, a.0 ∙ rw (ne_eqb n (length (items_of_part v h)) (λ q. d (counts v h ∙ sym q))))

        pub by_items : is_unordered (collection_of c) ≡ false → count ≡ n → Meets c n s p (Ok 1)
        by_items u d v h =
            let a = meets_each c n v (items_of_part v h) (has_units v h).has each in
            let fit = eq-eqb n (length (items_of_part v h)) (sym d ∙ counts v h) in
            let len : length (meetings c n v) ≡ 1 =
            ap length (a.0 ∙ pick_true (arrangements (collection_of c) (items_of_part v h)) fit ∙ in_turn (collection_of c) u (items_of_part v h)) in
            (a.1, len, omega arith, omega arith)

      module _ (units : ℕ) (are : (v : Value) (h : PartIs s p v) → units ≡ length (has_units v h).units) where
        pub by_splits : is_split c ≡ true → (r : Result ℕ Misfit) → SplitsAs units r → Meets c n s p r
        by_splits e (Err Unfit) l v h =
            let us = (has_units v h).units in
            let a = meets_splits c n v us (has_units v h).has e in
            let q = are v h in (
              a.1 ∙ le-ltb most_split (length us) (omega arith),
              a.0 ∙ ap (λ (hs : List (Halves (UnitOf (collection_of c)))). map (both_halves (collection_of c)) (map (halves_in (collection_of c)) hs)) (proper_none us (omega arith)),
            )
        by_splits e (Err TooLarge) l v h =
            let us = (has_units v h).units in
            let q = are v h in
            (meets_splits c n v us (has_units v h).has e).1 ∙ lt-ltb most_split (length us) (omega arith)
        by_splits e (Ok m) (two, few, all) v h =
            let us = (has_units v h).units in
            let a = meets_splits c n v us (has_units v h).has e in
            let q = are v h in
            let len : length (meetings c n v) ≡ m =
            ap length a.0 ∙ length-map (map (halves_in (collection_of c)) (proper_splits us)) (both_halves (collection_of c)) ∙ length-map (proper_splits us) (halves_in (collection_of c))
            ∙ proper_length us ∙ ap (λ (x : ℕ). 2 ^ x - 2) (sym q) ∙ omega (arith, all) in
            (a.1 ∙ le-ltb most_split (length us) (omega arith), len, omega (arith, all, pow_mono {i = 2} {j = units} two), omega (arith, all, pow_mono {i = units} {j = 7} few))

        pub by_orders : is_paired c ≡ true → count ≡ n → (m : ℕ) → (m ≡ factorial units) × (0 < m) × (m < 256) → Meets c n s p (Ok m)
        by_orders e d m o v h =
            let us = (has_units v h).units in
            let a = meets_orders c n v us (has_units v h).has e in
            let fit = eq-eqb n (length (items_of_part v h)) (sym d ∙ counts v h) in
            let len : length (meetings c n v) ≡ m =
            ap length (a.0 ∙ pick_true (map (items_in (collection_of c)) (orders us)) fit) ∙ length-map (orders us) (items_in (collection_of c)) ∙ orders_length us ∙ ap factorial (sym (are v h)) ∙ sym o.0 in
            (a.1, len, o.1, o.2)

-- two units or more have a mask above 2
pub full_splits : (units m : ℕ) → 2 ≤ units → Full units m → 2 < m
full_splits units m l full = omega (arith, full.power, pow_mono {i = 2} {j = units} l)
