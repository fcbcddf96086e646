-- Masks of one set or map compared by their bits, and words compared.
use Rattle.parts.specs.declared.How.TheVariants.{Nothing, Units}
use mathlib.Core.Path.{◌≡◌, refl, sym, ap, ap₂, subst, ◌∙◌}
use mathlib.Core.Bool.{Bool, true, cond}
use mathlib.Core.Logic.{inl, inr}
use mathlib.Core.List.{List, [], ◌∷◌, ◌++◌}
use Prim.Native.Nat.{ℕ, zero, suc, ◌+◌, ◌/◌, ◌%◌, ◌^◌, ◌<◌}
use native.Mathlib.Nat.{pow-suc}
use native.Mathlib.Decide.{ℕ_discrete}
use native.Mathlib.Omega.{arith}
use lib.Bits.{differ, bit_xor, xor_step, xor_shr}
use lib.Count.{under, count_trailing_zeros}
use lib.Dec.{eqb}
use lib.ListN.{length}
use lib.Pow.{shr-shr}
use borrow.Author.Tests.{eq-eqb, ne_eqb}
use Rattle.prelude.specs.Membership.{In}
use Rattle.std.specs.declared.cmp.Ordering.{Ordering}
use Rattle.std.specs.declared.cmp.Ordering.TheVariants.{Less, Equal, Greater}
use Rattle.values.specs.Value.{Kind, set, sequence, map as mapping, tuple, Value, collection, order, after, within, order_items, Shaped}
use Rattle.values.specs.Entries.{flat}
use Rattle.values.specs.Place.{At}
use Rattle.values.proofs.Order.{order_refl, items_refl, lower_flip}
use Rattle.values.proofs.Records.{collection_shaped, one_value}
use Rattle.patterns.specs.Pattern.{list_of, items_of, UnitOf, items_in, is_unordered}
use Rattle.patterns.specs.Binding.{Cell, is, order_cells}
use Rattle.patterns.proofs.Laws.Plain.{cell_refl}
use Rattle.patterns.proofs.Laws.Collected.{first_of, Led, led_first, shaped_led}
use Rattle.parts.specs.declared.Part.{Part}
use Rattle.parts.specs.Chosen.{keep}
use Rattle.parts.proofs.Chosen.{keep_zero, keep_none, keep_odd, keep_even}
use Rattle.parts.specs.Mask.{OrderedMasks}
use Rattle.parts.specs.Part.{Selects, PartIs, PartHeld, CellIs}
use Rattle.parts.specs.Contract.{OrderedParts}
use Rattle.parts.specs.Word.{how_of, unpacked, WordHeld, OrderedWords}
use Rattle.parts.proofs.Laws.{is_nothing, selects_of, part_one, one_units}
use Rattle.parts.proofs.Parting.{collections_order}
use Rattle.parts.proofs.Packing.{how_none, cell_value, cell_free, order_left, order_right, order_both}

-- ---- chosen items in order

pub items_more : (v w : Value) (vs ws : List Value) → order_items (items_of (v ∷ vs)) (items_of (w ∷ ws)) ≡ after (order v w) (order_items (items_of vs) (items_of ws))
unfolding within items_of
items_more v w vs ws = refl

pub none_lower : (w : Value) (ws : List Value) → order_items (items_of []) (items_of (w ∷ ws)) ≡ Less
unfolding within items_of
none_lower w ws = refl

pub none_none : order_items (items_of []) (items_of []) ≡ Equal
unfolding within items_of
none_none = refl

pub some_higher : (v : Value) (vs : List Value) → order_items (items_of (v ∷ vs)) (items_of []) ≡ Greater
unfolding within items_of
some_higher v vs = refl

-- equal items at the start decide nothing
items_same_start : (us vs ws : List Value) → order_items (items_of (us ++ vs)) (items_of (us ++ ws)) ≡ order_items (items_of vs) (items_of ws)
items_same_start [] vs ws = refl
items_same_start (u ∷ us) vs ws =
    items_more u u (us ++ vs) (us ++ ws)
    ∙ ap (λ (j : Ordering). after j (order_items (items_of (us ++ vs)) (items_of (us ++ ws)))) (order_refl u)
    ∙ items_same_start us vs ws

-- ---- units and their first items

-- The items of a unit after the one that it stands in order by.
abbrev others_of : (k : Kind) → UnitOf k → List Value
others_of set v = []
others_of sequence v = []
others_of mapping e = e.value ∷ []
others_of tuple v = []

items_none : (k : Kind) → items_in k [] ≡ []
unfolding list_of flat
items_none set = refl
items_none sequence = refl
items_none mapping = refl
items_none tuple = refl

items_begin : (k : Kind) (u : UnitOf k) (us : List (UnitOf k)) → items_in k (u ∷ us) ≡ first_of k u ∷ (others_of k u ++ items_in k us)
unfolding list_of flat
items_begin set u us = refl
items_begin sequence u us = refl
items_begin mapping u us = refl
items_begin tuple u us = refl

-- a mask that is not 0 chooses some
pub record Some {A : Type 0} (m : ℕ) (us : List A) : Type 0 where
  pub first : A
  pub others : List A
  pub is : keep m us ≡ first ∷ others
  pub there : In first us

pub keep_some : {A : Type 0} (m : ℕ) (us : List A) → (m ≡ 0 → ⊥) → m < 2 ^ length us → Some m us
keep_some m [] f l = absurd (f (omega arith))
keep_some m (u ∷ us) f l = go (ℕ_discrete (m % 2) 1) (λ k. keep_some (m / 2) us k (omega (arith, pow-suc 2 (length us))))
  where
    go : Dec (m % 2 ≡ 1) → ((m / 2 ≡ 0 → ⊥) → Some (m / 2) us) → Some m (u ∷ us)
    go (yes o) on = record { first = u; others = keep (m / 2) us; is = keep_odd m (m / 2) u us o refl; there = inl refl }
    go (no o) on =
        let r = on (λ z. f (omega (arith, o))) in
        record { first = r.first; others = r.others; is = keep_even m (m / 2) u us (omega (arith, o)) refl ∙ r.is; there = inr r.there }

-- ---- chosen units in order

abbrev pub order_in : (k : Kind) → List (UnitOf k) → List (UnitOf k) → Ordering
order_in k us ws = order_items (items_of (items_in k us)) (items_of (items_in k ws))

module _ (k : Kind) where
  abbrev U : Type 0
  U = UnitOf k

  -- the order of what begins with two units
  begun : (u w : U) (us ws : List U) → order_in k (u ∷ us) (w ∷ ws) ≡ after (order (first_of k u) (first_of k w)) (order_items (items_of (others_of k u ++ items_in k us)) (items_of (others_of k w ++ items_in k ws)))
  begun u w us ws =
      ap₂ (λ (l m : List Value). order_items (items_of l) (items_of m)) (items_begin k u us) (items_begin k w ws)
      ∙ items_more (first_of k u) (first_of k w) (others_of k u ++ items_in k us) (others_of k w ++ items_in k ws)

  units_lower : (u w : U) (us ws : List U) → order (first_of k u) (first_of k w) ≡ Less → order_in k (u ∷ us) (w ∷ ws) ≡ Less
  units_lower u w us ws e =
      begun u w us ws ∙ ap (λ (j : Ordering). after j (order_items (items_of (others_of k u ++ items_in k us)) (items_of (others_of k w ++ items_in k ws)))) e

  units_higher : (u w : U) (us ws : List U) → order (first_of k u) (first_of k w) ≡ Greater → order_in k (u ∷ us) (w ∷ ws) ≡ Greater
  units_higher u w us ws e =
      begun u w us ws ∙ ap (λ (j : Ordering). after j (order_items (items_of (others_of k u ++ items_in k us)) (items_of (others_of k w ++ items_in k ws)))) e

  units_more : (u : U) (us ws : List U) → order_in k (u ∷ us) (u ∷ ws) ≡ order_in k us ws
  units_more u us ws =
      ap₂ (λ (l m : List Value). order_items (items_of l) (items_of m)) (items_begin k u us) (items_begin k u ws)
      ∙ items_same_start (first_of k u ∷ others_of k u) (items_in k us) (items_in k ws)

  -- a unit comes before what a mask chooses of those after it
  comes_first : (w : U) (us ws : List U) (m : ℕ) → Led (first_of k) (w ∷ ws) → Some m ws → (order_in k (w ∷ us) (keep m ws) ≡ Less) × (order_in k (keep m ws) (w ∷ us) ≡ Greater)
  comes_first w us ws m h r =
      let lower = (led_first (first_of k) w ws h).0 r.first r.there in (
        ap (order_in k (w ∷ us)) r.is ∙ units_lower w r.first us r.others lower,
        ap (λ (l : List U). order_in k l (w ∷ us)) r.is ∙ units_higher r.first w r.others us (lower_flip (first_of k w) (first_of k r.first) lower),
      )

  units_none : (w : U) (ws : List U) → order_in k [] (w ∷ ws) ≡ Less
  units_none w ws =
      ap₂ (λ (l m : List Value). order_items (items_of l) (items_of m)) (items_none k) (items_begin k w ws)
      ∙ none_lower (first_of k w) (others_of k w ++ items_in k ws)

  units_some : (u : U) (us : List U) → order_in k (u ∷ us) [] ≡ Greater
  units_some u us =
      ap₂ (λ (l m : List Value). order_items (items_of l) (items_of m)) (items_begin k u us) (items_none k)
      ∙ some_higher (first_of k u) (others_of k u ++ items_in k us)

-- ---- from the lowest bit on

-- Of some units two masks choose what has this order.
pub record Left (k : Kind) (x y : ℕ) (o : Ordering) : Type 0 where
  pub units : List (UnitOf k)
  pub left : x < 2 ^ length units
  pub right : y < 2 ^ length units
  pub led : Led (first_of k) units
  pub is : order_in k (keep x units) (keep y units) ≡ o

-- The order of what x and y choose of some units is that of what a and b choose of all.
abbrev pub MasksLeft : ℕ → ℕ → ℕ → ℕ → Type 0
MasksLeft a b x y =
    (k : Kind) → is_unordered k ≡ true → (us : List (UnitOf k)) → a < 2 ^ length us → b < 2 ^ length us → Shaped k (items_of (items_in k us))
    → Left k x y (order_in k (keep a us) (keep b us))

pub left_start : (a b : ℕ) → MasksLeft a b a b
left_start a b k u us p q h = record { units = us; left = p; right = q; led = shaped_led k u us h; is = refl }

module _ (a b x y : ℕ) (i : MasksLeft a b x y) where
  -- what is left decides
  decided : (o : Ordering) → ((k : Kind) (ws : List (UnitOf k)) → x < 2 ^ length ws → y < 2 ^ length ws → Led (first_of k) ws → order_in k (keep x ws) (keep y ws) ≡ o) → OrderedMasks a b o
  decided o f k u us p q h = let r = i k u us p q h in sym (f k r.units r.left r.right r.led) ∙ r.is

  pub masks_same : x ≡ y → OrderedMasks a b Equal
  masks_same e =
      decided Equal (λ k ws p q h. ap (λ (m : ℕ). order_in k (keep x ws) (keep m ws)) (sym e) ∙ items_refl (items_of (items_in k (keep x ws))))

  pub masks_none : x ≡ 0 → (y ≡ 0 → ⊥) → OrderedMasks a b Less
  masks_none e f =
      decided Less (λ k ws p q h.
      let r = keep_some y ws f q in
      ap₂ (order_in k) (ap (λ (m : ℕ). keep m ws) e ∙ keep_zero ws) r.is ∙ units_none k r.first r.others)

  pub masks_some : (x ≡ 0 → ⊥) → y ≡ 0 → OrderedMasks a b Greater
  masks_some e f =
      decided Greater (λ k ws p q h.
      let r = keep_some x ws e p in
      ap₂ (order_in k) r.is (ap (λ (m : ℕ). keep m ws) f ∙ keep_zero ws) ∙ units_some k r.first r.others)

  -- both have the first unit, or neither
  masks_more : x % 2 ≡ y % 2 → MasksLeft a b (x / 2) (y / 2)
  masks_more d k u us p q h = let r = i k u us p q h in go r.units r.left r.right r.led r.is
    where
      same : (w : UnitOf k) (ws : List (UnitOf k)) → Dec (x % 2 ≡ 1) → order_in k (keep (x / 2) ws) (keep (y / 2) ws) ≡ order_in k (keep x (w ∷ ws)) (keep y (w ∷ ws))
      same w ws (yes z) =
          sym (units_more k w (keep (x / 2) ws) (keep (y / 2) ws))
          ∙ sym (ap₂ (order_in k) (keep_odd x (x / 2) w ws z refl) (keep_odd y (y / 2) w ws (omega (arith, d)) refl))
      same w ws (no z) = sym (ap₂ (order_in k) (keep_even x (x / 2) w ws (omega (arith, z)) refl) (keep_even y (y / 2) w ws (omega (arith, d, z)) refl))

      go : (ws : List (UnitOf k)) → x < 2 ^ length ws → y < 2 ^ length ws → Led (first_of k) ws → order_in k (keep x ws) (keep y ws) ≡ order_in k (keep a us) (keep b us)
          → Left k (x / 2) (y / 2) (order_in k (keep a us) (keep b us))
      go [] l r s g = record { units = []; left = omega arith; right = omega arith; led = s; is = ap₂ (order_in k) (keep_none (x / 2) ∙ sym (keep_none x)) (keep_none (y / 2) ∙ sym (keep_none y)) ∙ g }
      go (w ∷ ws) l r s g = record {
        units = ws;
        left = omega (arith, pow-suc 2 (length ws));
        right = omega (arith, pow-suc 2 (length ws));
        led = (led_first (first_of k) w ws s).1;
        is = same w ws (ℕ_discrete (x % 2) 1) ∙ g;
      }

  module _ (e : x ≡ 0 → ⊥) (f : y ≡ 0 → ⊥) where
    -- one has the first unit, the other begins after it
    pub masks_first : (x % 2 ≡ y % 2 → ⊥) → (t : Bool) → t ≡ eqb (x % 2) 1 → (o : Ordering) → o ≡ cond t Less Greater → OrderedMasks a b o
    masks_first d t te o oe = decided o (λ k ws p q h. go k ws p q h (ℕ_discrete (x % 2) 1) ∙ sym oe)
      where
        go : (k : Kind) (ws : List (UnitOf k)) → x < 2 ^ length ws → y < 2 ^ length ws → Led (first_of k) ws → Dec (x % 2 ≡ 1) → order_in k (keep x ws) (keep y ws) ≡ cond t Less Greater
        go k [] p q h z = absurd (e (omega arith))
        go k (w ∷ ws) p q h (yes z) =
            let r = keep_some (y / 2) ws (λ u. f (omega (arith, d))) (omega (arith, pow-suc 2 (length ws))) in
            ap₂ (order_in k) (keep_odd x (x / 2) w ws z refl) (keep_even y (y / 2) w ws (omega (arith, d)) refl)
            ∙ (comes_first k w (keep (x / 2) ws) ws (y / 2) h r).0
            ∙ sym (ap (λ (u : Bool). cond u Less Greater) (te ∙ eq-eqb (x % 2) 1 z))
        go k (w ∷ ws) p q h (no z) =
            let r = keep_some (x / 2) ws (λ u. e (omega (arith, z))) (omega (arith, pow-suc 2 (length ws))) in
            ap₂ (order_in k) (keep_even x (x / 2) w ws (omega (arith, z)) refl) (keep_odd y (y / 2) w ws (omega (arith, d, z)) refl)
            ∙ (comes_first k w (keep (y / 2) ws) ws (x / 2) h r).1
            ∙ sym (ap (λ (u : Bool). cond u Less Greater) (te ∙ ne_eqb (x % 2) 1 z))

-- ---- the lowest bits that are equal

-- The lowest t of k bits of x and y are equal, and the next is not: what is left of both decides.
pub record EqualBits (a b x y t k : ℕ) : Type 0 where
  pub low : t < k
  pub left : MasksLeft a b (x / 2 ^ t) (y / 2 ^ t)
  pub differ : x / 2 ^ t % 2 ≡ y / 2 ^ t % 2 → ⊥

digits_same : (p q : ℕ) → p ≡ q → p < 2 → differ p q ≡ 0
digits_same zero q e l = sym e
digits_same (suc zero) zero e l = absurd (omega arith)
digits_same (suc zero) (suc q) e l = omega arith
digits_same (suc (suc p)) q e l = absurd (omega arith)

digits_other : (p q : ℕ) → (p ≡ q → ⊥) → p < 2 → q < 2 → differ p q ≡ 1
digits_other zero q f l m = omega (arith, f)
digits_other (suc zero) zero f l m = refl
digits_other (suc zero) (suc q) f l m = absurd (f (omega arith))
digits_other (suc (suc p)) q f l m = absurd (omega arith)

-- they are as many as the zeros below the lowest bit of the bits that differ
pub equal_bits : (k a b x y : ℕ) → MasksLeft a b x y → (x ≡ y → ⊥) → x < 2 ^ k → y < 2 ^ k → EqualBits a b x y (count_trailing_zeros k (bit_xor x y)) k
unfolding count_trailing_zeros
equal_bits zero a b x y i f p q = absurd (f (omega arith))
equal_bits (suc k) a b x y i f p q =
    go (ℕ_discrete (x % 2) (y % 2)) (λ e.
    equal_bits k a b (x / 2) (y / 2) (masks_more a b x y i e) (λ z. f (omega (arith, e, z))) (omega (arith, pow-suc 2 k)) (omega (arith, pow-suc 2 k)))
  where
    halves : bit_xor x y / 2 ≡ bit_xor (x / 2) (y / 2)
    halves = xor_shr x y 1

    lowest : (d : ℕ) → differ (x % 2) (y % 2) ≡ d → d < 2 → bit_xor x y % 2 ≡ d
    lowest d e l = let s = xor_step x y in omega arith

    go : Dec (x % 2 ≡ y % 2) → (x % 2 ≡ y % 2 → EqualBits a b (x / 2) (y / 2) (count_trailing_zeros k (bit_xor (x / 2) (y / 2))) k)
        → EqualBits a b x y (under (bit_xor x y % 2) (count_trailing_zeros k (bit_xor x y / 2))) (suc k)
    go (yes e) on =
        let t = count_trailing_zeros k (bit_xor (x / 2) (y / 2)) in
        let r = on e in
        let n : 1 + t ≡ suc t = omega arith in
        let u : x / 2 / 2 ^ t ≡ x / 2 ^ suc t = shr-shr x 1 t ∙ ap (λ (m : ℕ). x / 2 ^ m) n in
        let v : y / 2 / 2 ^ t ≡ y / 2 ^ suc t = shr-shr y 1 t ∙ ap (λ (m : ℕ). y / 2 ^ m) n in
        subst (λ (m : ℕ). EqualBits a b x y m (suc k)) (sym (ap₂ under (lowest 0 (digits_same (x % 2) (y % 2) e (omega arith)) (omega arith)) (ap (count_trailing_zeros k) halves)))
        (record {
          low = let l = r.low in omega arith;
          left = subst (λ (m : ℕ). MasksLeft a b m (y / 2 ^ suc t)) u (subst (MasksLeft a b (x / 2 / 2 ^ t)) v r.left);
          differ = λ z. r.differ (ap (λ (m : ℕ). m % 2) u ∙ z ∙ sym (ap (λ (m : ℕ). m % 2) v));
        })
    go (no d) on =
        let u : x / 2 ^ 0 ≡ x = omega arith in
        let v : y / 2 ^ 0 ≡ y = omega arith in
        subst (λ (m : ℕ). EqualBits a b x y m (suc k)) (sym (ap (λ (m : ℕ). under m (count_trailing_zeros k (bit_xor x y / 2))) (lowest 1 (digits_other (x % 2) (y % 2) d (omega arith) (omega arith)) (omega arith))))
        (record {
          low = omega arith;
          left = subst (λ (m : ℕ). MasksLeft a b m (y / 2 ^ 0)) (sym u) (subst (MasksLeft a b x) (sym v) i);
          differ = λ z. d (ap (λ (m : ℕ). m % 2) (sym u) ∙ z ∙ ap (λ (m : ℕ). m % 2) v);
        })

-- ---- two masks of one set or map

-- what a mask chooses, by whatever kind and units stand at the place
selects_there : {s : List ℕ} {at mask : ℕ} {w : Value} (k : Kind) (us : List (UnitOf k)) → At s at (collection k (items_of (items_in k us))) → Selects s at mask w
    → (mask < 2 ^ length us) × (w ≡ collection k (items_of (items_in k (keep mask us))))
selects_there {mask = mask} {w = w} k us h y =
    one_units (λ (l : Kind) (ws : List (UnitOf l)). (mask < 2 ^ length ws) × (w ≡ collection l (items_of (items_in l (keep mask ws))))) y.kind k y.all us (one_value y.here h) (y.below, y.is)

pub masks_order : (s : List ℕ) (p q : Part) → p.how ≡ Units → q.how ≡ Units → p.at ≡ q.at → (o : Ordering) → OrderedMasks p.extent q.extent o → OrderedParts s p q o
masks_order s p q e f g o h v w i j =
    let x = selects_of {p = p} e i in
    let k = x.kind in
    let (below, chosen) = selects_there k x.all x.here (subst (λ (n : ℕ). Selects s n q.extent w) (sym g) (selects_of {p = q} f j)) in
    h k x.unordered x.all x.below below (collection_shaped x.here.fine)
    ∙ sym (ap₂ order x.is chosen ∙ collections_order k k (items_in k (keep p.extent x.all)) (items_in k (keep q.extent x.all)) refl)

-- ---- words

module _ (s : List ℕ) where
  cell_one : (p : Part) (c d : Cell) → CellIs s p c → CellIs s p d → c ≡ d
  cell_one p c d (inl h) k = h.1 ∙ sym (cell_free {s = s} {p = p} {c = d} h.0 k)
  cell_one p c d (inr (v, e, h)) k = go (is_nothing p.how)
    where
      go : Dec (p.how ≡ Nothing) → c ≡ d
      go (yes z) = cell_free {s = s} {p = p} {c = c} z (inr (v, e, h)) ∙ sym (cell_free {s = s} {p = p} {c = d} z k)
      go (no z) = let (w, f, g) = cell_value {s = s} {p = p} {c = d} z k in e ∙ ap is (part_one {p = p} h g) ∙ sym f

  pub words_same : (a b : ℕ) → a ≡ b → OrderedWords s a b Equal
  words_same a b e x y h k =
      let d : y ≡ x = cell_one (unpacked a) y x (subst (λ (n : ℕ). CellIs s (unpacked n) y) (sym e) k) h in
      sym (ap (order_cells x) d ∙ cell_refl x)

  some_part : (n : ℕ) → WordHeld s n → (n ≡ 0 → ⊥) → (unpacked n).how ≡ Nothing → ⊥
  some_part n h f z = f (h.blank (how_none (n % 4) z))

  module _ (a b : ℕ) (h : WordHeld s a) (k : WordHeld s b) where
    pub words_lower : a ≡ 0 → (b ≡ 0 → ⊥) → OrderedWords s a b Less
    words_lower e f = order_left s (unpacked a) (unpacked b) (ap (λ (n : ℕ). how_of (n % 4)) e) (some_part b k f)

    pub words_higher : (a ≡ 0 → ⊥) → b ≡ 0 → OrderedWords s a b Greater
    words_higher e f = order_right s (unpacked a) (unpacked b) (some_part a h e) (ap (λ (n : ℕ). how_of (n % 4)) f)

    module _ (e : a ≡ 0 → ⊥) (f : b ≡ 0 → ⊥) (p q : Part) (pe : p ≡ unpacked a) (qe : q ≡ unpacked b) where
      pub words_held : PartHeld s p × PartHeld s q
      words_held =
          let x = cell_value {s = s} {p = unpacked a} {c = h.cell} (some_part a h e) h.is in
          let y = cell_value {s = s} {p = unpacked b} {c = k.cell} (some_part b k f) k.is in
          (record { value = x.0; here = subst (λ (z : Part). PartIs s z x.0) (sym pe) x.2 }, record { value = y.0; here = subst (λ (z : Part). PartIs s z y.0) (sym qe) y.2 })

      pub words_order : (o : Ordering) → OrderedParts s p q o → OrderedWords s a b o
      words_order o c = order_both s (unpacked a) (unpacked b) (some_part a h e) (some_part b k f) o (subst (λ (z : Part). OrderedParts s z (unpacked b) o) pe (subst (λ (z : Part). OrderedParts s p z o) qe c))
