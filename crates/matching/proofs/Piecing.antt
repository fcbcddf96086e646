-- What each part meets in a way.
use mathlib.Core.Path.{◌≡◌, refl, sym, ap, subst, ◌∙◌}
use mathlib.Core.Bool.{Bool, true, false, cond}
use mathlib.Core.Logic.{inl}
use mathlib.Core.List.{List, [], ◌∷◌, map}
use Prim.Native.Nat.{ℕ, suc, ◌+◌, ◌*◌, ◌/◌, ◌%◌, ◌^◌, ◌≤◌, ◌<◌}
use native.Mathlib.Decide.{ℕ_discrete}
use native.Mathlib.Nat.{mul_comm, div-add-mod, div-lt_iff_lt-mul, mod-lt}
use native.Mathlib.Omega.{arith}
use lib.Arith.{digits_lt}
use lib.Dec.{eqb}
use lib.ListN.{length, get_or, length-map}
use lib.Pow.{pow_mono}
use borrow.Author.Tests.{eq-eqb, ne_eqb, eqb-true, ltb-false}
use Rattle.prelude.proofs.Lists.{map_at}
use Rattle.prelude.proofs.Membership.{at_in}
use Rattle.values.specs.Value.{Kind, sequence, number, kind_of, Value, collection}
use Rattle.values.specs.Place.{At}
use Rattle.parts.specs.declared.Part.{Part}
use Rattle.parts.specs.declared.Halves.{Halves}
use Rattle.parts.specs.Part.{PartIs}
use Rattle.parts.specs.Contract.{CollectionHeld, ItemHeld, ItemOfPart, HalvesAre, UnitsHere, SplitHeld, SplitOf, CutHeld, CutOf}
use Rattle.parts.proofs.Laws.{part_one, part_well_formed}
use Rattle.parts.specs.Chosen.{split_at}
use Rattle.parts.proofs.Chosen.{proper_length, nth_split, nth_proper, cuts_length}
use Rattle.patterns.specs.Ways.{Halves as Split, halves, splits, proper_splits, cuts, orders}
use Rattle.patterns.specs.Pattern.{items_of, UnitOf, items_in, halves_in, is_unordered}
use Rattle.patterns.proofs.Laws.Collected.{items_length}
use Rattle.patterns.specs.Nodes.{collection_of, width, is_halved, meetings, both_halves}
use Rattle.patterns.proofs.Laws.Orders.{order_length, orders_length}
use Rattle.patterns.specs.Ways.{factorial}
use Rattle.matching.specs.Node.{is_split, is_paired, Ordinal, PieceHeld, PieceOf}
use Rattle.matching.proofs.Placing.{same_item}
use Rattle.matching.proofs.Counting.{pick_true, split_kind, in_turn, Has, few_items, width_range, units_count, four_units, contents_other, contents_same, none_meets, meets_each, meets_splits, meets_cuts, meets_orders}

-- some way there is only where the test is true
picked_some : {A : Type 0} (t : Bool) (xs : List A) (d : ℕ) → d < length (cond t xs []) → (t ≡ true) × (d < length xs)
picked_some true xs d h = (refl, h)
picked_some false xs d h = absurd (omega arith)

module _ (c n : ℕ) (s : List ℕ) (p : Part) (d i : ℕ) (h : PieceHeld c n s p d i) where
  has_value : Has (collection_of c) h.value
  has_value = go (ℕ_discrete (kind_of h.value) (number (collection_of c)))
    where
      go : Dec (kind_of h.value ≡ number (collection_of c)) → Has (collection_of c) h.value
      go (yes e) = contents_same (collection_of c) h.value (part_well_formed h.here) e
      go (no f) =
          let a = none_meets c n h.value (contents_other (collection_of c) h.value f) in
          absurd (omega (arith, h.below, ap length a.1))

  abbrev us : List (UnitOf (collection_of c))
  us = has_value.units

  abbrev vs : List Value
  vs = items_in (collection_of c) us

  here : (k : Kind) → collection_of c ≡ k → PartIs s p (collection k (items_of vs))
  here k e = subst (λ (q : Kind). PartIs s p (collection q (items_of vs))) e (subst (PartIs s p) has_value.is h.here)

  pub held : CollectionHeld s p
  held = record { kind = collection_of c; items = vs; here = here (collection_of c) refl }

  -- whatever value the part denotes, it is that one
  same_value : (v : Value) → PartIs s p v → v ≡ h.value
  same_value v q = part_one q h.here

  -- ---- two halves

  -- the two halves are what the two parts meet
  abbrev pub Met : Halves → Type 0
  Met r = (i ≡ 0 → PieceOf c n s p d i r.left) × ((i ≡ 0 → ⊥) → PieceOf c n s p d i r.right)

  pub half_meets : (r : Halves) → Met r → PieceOf c n s p d i (cond (eqb i 0) r.left r.right)
  half_meets r (f, g) = go (ℕ_discrete i 0)
    where
      go : Dec (i ≡ 0) → PieceOf c n s p d i (cond (eqb i 0) r.left r.right)
      go (yes e) = subst (λ (t : Bool). PieceOf c n s p d i (cond t r.left r.right)) (sym (eq-eqb i 0 e)) (f e)
      go (no e) = subst (λ (t : Bool). PieceOf c n s p d i (cond t r.left r.right)) (sym (ne_eqb i 0 e)) (g e)

  halves_meet : (k : Kind) (g : Split Value) → n ≡ 2 → get_or (meetings c n h.value) d [] ≡ both_halves k g → (r : Halves) → HalvesAre s k g r → Met r
  halves_meet k g two way r o = (
    λ f v z q. subst (PartIs s r.left) (sym (part_at 0 f v z q)) o.left,
    λ f v z q. subst (PartIs s r.right) (sym (part_at 1 (omega (arith, two, h.within, f)) v z q)) o.right,
  )
    where
      part_at : (j : ℕ) → i ≡ j → (v z : Value) → PartIs s p v → get_or (get_or (meetings c n v) d []) i z ≡ get_or (both_halves k g) j z
      part_at j f v z q =
          ap (λ (w : Value). get_or (get_or (meetings c n w) d []) i z) (same_value v q) ∙ ap (λ (l : List Value). get_or l i z) way ∙ ap (λ (m : ℕ). get_or (both_halves k g) m z) f

  module _ (e : is_split c ≡ true) where
    splits_are : meetings c n h.value ≡ map (both_halves (collection_of c)) (map (halves_in (collection_of c)) (proper_splits us))
    splits_are = (meets_splits c n h.value us has_value.has e).0

    many : length (map (halves_in (collection_of c)) (proper_splits us)) ≡ length (proper_splits us)
    many = length-map (proper_splits us) (halves_in (collection_of c))

    below_splits : d < length (proper_splits us)
    below_splits = omega (arith, h.below, ap length splits_are, length-map (map (halves_in (collection_of c)) (proper_splits us)) (both_halves (collection_of c)), many)

    next_below : suc d + 1 < 2 ^ length us
    next_below = omega (arith, below_splits, proper_length us)

    few_units : length us ≤ 7
    few_units = ltb-false 7 (length us) (sym (meets_splits c n h.value us has_value.has e).1 ∙ h.narrow)

    pub next_low : d + 1 < 128
    next_low = omega (arith, next_below, pow_mono {i = length us} {j = 7} few_units)

    units_here : UnitsHere s p (collection_of c) us
    units_here = ((split_kind c e).1, here (collection_of c) refl)

    pub split_held : SplitHeld s p (d + 1)
    split_held = record { kind = collection_of c; units = us; here = units_here; few = few_units; below = omega (arith, next_below) }

    next_split : get_or (proper_splits us) d (halves [] []) ≡ get_or (splits us) (d + 1) (halves [] [])
    next_split =
        let e : suc d ≡ d + 1 = omega arith in
        nth_proper us d (halves [] []) next_below ∙ ap (split_at us) e ∙ sym (nth_split us (d + 1) (halves [] []) (omega (arith, next_below)))

    split_way : get_or (meetings c n h.value) d [] ≡ both_halves (collection_of c) (halves_in (collection_of c) (get_or (splits us) (d + 1) (halves [] [])))
    split_way =
        ap (λ (l : List (List Value)). get_or l d []) splits_are
        ∙ map_at (both_halves (collection_of c)) (map (halves_in (collection_of c)) (proper_splits us)) d (halves [] []) [] (omega (arith, below_splits, many))
        ∙ ap (both_halves (collection_of c)) (map_at (halves_in (collection_of c)) (proper_splits us) d (halves [] []) (halves [] []) below_splits ∙ ap (halves_in (collection_of c)) next_split)

    pub split_meets : (r : Halves) → SplitOf s p (d + 1) r → Met r
    split_meets r o =
        halves_meet (collection_of c) (halves_in (collection_of c) (get_or (splits us) (d + 1) (halves [] []))) (h.two (split_kind c e).0) split_way r (o.right (collection_of c) us units_here)

  module _ (e : c ≡ 40) where
    cuts_are : meetings c n h.value ≡ map (both_halves sequence) (cuts vs)
    cuts_are = (meets_cuts c n h.value vs has_value.has e).0

    below_cuts : d < length (cuts vs)
    below_cuts = omega (arith, h.below, ap length cuts_are, length-map (cuts vs) (both_halves sequence))

    pub cut_held : CutHeld s p d
    cut_held = record { items = vs; here = here sequence (rw e); below = omega (arith, below_cuts, cuts_length vs); short = h.short }

    cut_way : get_or (meetings c n h.value) d [] ≡ both_halves sequence (get_or (cuts vs) d (halves [] []))
    cut_way = ap (λ (l : List (List Value)). get_or l d []) cuts_are ∙ map_at (both_halves sequence) (cuts vs) d (halves [] []) [] below_cuts

    pub cut_meets : (r : Halves) → CutOf s p d r → Met r
    cut_meets r o = halves_meet sequence (get_or (cuts vs) d (halves [] [])) (h.two (rw e)) cut_way r (o.right vs (here sequence (rw e)))

  -- ---- one item each

  -- the item at k is what part i meets, where the way has it there
  item-is : (r : Part) (k : ℕ) (q : List Value) → get_or (meetings c n h.value) d [] ≡ q → ((z : Value) → get_or q i z ≡ get_or vs k z) → ItemOfPart s p k r → PieceOf c n s p d i r
  item-is r k q e f o v z g =
      let w : get_or (get_or (meetings c n v) d []) i z ≡ get_or vs k z =
      ap (λ (u : Value). get_or (get_or (meetings c n u) d []) i z) (same_value v g) ∙ ap (λ (l : List Value). get_or l i z) e ∙ f z in
      inl (o.whole, subst (At s r.at) (sym w) (o.right (collection_of c) vs z (here (collection_of c) refl)))

  item_held : (k : ℕ) → k < length vs → ItemHeld s p k
  item_held k l = record { kind = collection_of c; items = vs; here = here (collection_of c) refl; below = l; short = h.short }

  module _ (e : is_paired c ≡ true) where
    orders_are : meetings c n h.value ≡ cond (eqb n (length vs)) (map (items_in (collection_of c)) (orders us)) []
    orders_are = (meets_orders c n h.value us has_value.has e).0

    fits : (eqb n (length vs) ≡ true) × (d < length (map (items_in (collection_of c)) (orders us)))
    fits = picked_some (eqb n (length vs)) (map (items_in (collection_of c)) (orders us)) d (omega (arith, h.below, ap length orders_are))

    below_orders : d < length (orders us)
    below_orders = omega (arith, fits.1, length-map (orders us) (items_in (collection_of c)))

    count-is : n ≡ length vs
    count-is = eqb-true n (length vs) fits.0

    abbrev w : ℕ
    w = width (collection_of c)

    some_width : 0 < w
    some_width = (width_range (collection_of c)).0

    units_are : n / w ≡ length us
    units_are = ap (λ (x : ℕ). x / w) count-is ∙ units_count (collection_of c) us

    all_items : n ≡ length us * w
    all_items = count-is ∙ items_length (collection_of c) us ∙ mul_comm w (length us)

    unit_low : i / w < length us
    unit_low = (div-lt_iff_lt-mul {k = w} {x = i} {y = length us} some_width).1 (subst (λ (x : ℕ). i < x) all_items h.within)

    -- The order is one of at most four units, and the item is one of a unit.
    pub order_low : (x : ℕ) → x ≡ w → (n / x ≤ 4) × (d < factorial (n / x)) × (i / x < n / x)
    order_low x f = rw f (four_units (collection_of c) n w h.few refl, omega (arith, below_orders, orders_length us, ap factorial units_are), subst (λ (y : ℕ). i / w < y) (sym units_are) unit_low)

    module _ (r : ℕ) (o : Ordinal (n / w) d (i / w) r) where
      unit_there : r < length us
      unit_there = omega (arith, o.below, units_are)

      item_there : w * r + i % w < length vs
      item_there =
          let m : r * w + i % w < length us * w = digits_lt unit_there (mod-lt i some_width) in
          omega (arith, m, mul_comm w r, all_items, count-is)

      -- in the order, the item at i is the same one of its unit
      item_placed : (z : Value) → get_or (items_in (collection_of c) (get_or (orders us) d [])) i z ≡ get_or vs (w * r + i % w) z
      item_placed z =
          let long = order_length us (get_or (orders us) d []) (at_in (orders us) d [] below_orders) in
          ap (λ (x : ℕ). get_or (items_in (collection_of c) (get_or (orders us) d [])) x z) (sym (div-add-mod i w))
          ∙ same_item (collection_of c) (get_or (orders us) d []) us (i / w) r (i % w) z (λ u. o.right (collection_of c) us u (sym units_are)) (omega (arith, unit_low, long)) unit_there (mod-lt i some_width)

      order_way : get_or (meetings c n h.value) d [] ≡ items_in (collection_of c) (get_or (orders us) d [])
      order_way =
          ap (λ (l : List (List Value)). get_or l d []) (orders_are ∙ pick_true (map (items_in (collection_of c)) (orders us)) fits.0)
          ∙ map_at (items_in (collection_of c)) (orders us) d [] [] below_orders

    -- The unit r stands at the place of part i: the part meets the item of that unit at its own place.
    module _ (x : ℕ) (f : x ≡ w) (r : ℕ) (o : Ordinal (n / x) d (i / x) r) where
      placed : Ordinal (n / w) d (i / w) r
      placed = subst (λ (y : ℕ). Ordinal (n / y) d (i / y) r) f o

      pub item_small : x * r + i % x ≤ 127
      item_small = rw f (omega (arith, item_there r placed, few_items (collection_of c) vs (part_well_formed (here (collection_of c) refl))))

      pub paired_held : ItemHeld s p (x * r + i % x)
      paired_held = rw f (item_held (w * r + i % w) (item_there r placed))

      pub paired_is : (q : Part) → ItemOfPart s p (x * r + i % x) q → PieceOf c n s p d i q
      paired_is q g =
          item-is q (w * r + i % w) (items_in (collection_of c) (get_or (orders us) d [])) (order_way r placed) (item_placed r placed) (subst (λ (y : ℕ). ItemOfPart s p (y * r + i % y) q) f g)

  module _ (each : is_halved c ≡ false) (ordered : is_unordered (collection_of c) ≡ false) where
    items_are : meetings c n h.value ≡ cond (eqb n (length vs)) (vs ∷ []) []
    items_are =
        (meets_each c n h.value vs has_value.has each).0 ∙ ap (λ (l : List (List Value)). cond (eqb n (length vs)) l []) (in_turn (collection_of c) ordered vs)

    fit : (eqb n (length vs) ≡ true) × (d < 1)
    fit = picked_some (eqb n (length vs)) (vs ∷ []) d (omega (arith, h.below, ap length items_are))

    pub one_held : ItemHeld s p i
    one_held = item_held i (omega (arith, h.within, eqb-true n (length vs) fit.0))

    pub one_is : (q : Part) → ItemOfPart s p i q → PieceOf c n s p d i q
    one_is q g =
        let d0 : d ≡ 0 = omega (arith, fit.1) in
        item-is q i vs (ap (λ (l : List (List Value)). get_or l d []) (items_are ∙ pick_true (vs ∷ []) fit.0) ∙ ap (λ (k : ℕ). get_or (vs ∷ []) k []) d0) (λ z. refl) g
