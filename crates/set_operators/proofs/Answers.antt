-- What the code of each operator did is what the operator promises.
use mathlib.Core.Path.{◌≡◌, refl, sym, ap, ap₂, subst, ◌∙◌}
use mathlib.Core.Bool.{Bool, true, false, not, ◌&&◌, beq, cond}
use mathlib.Core.List.{List}
use mathlib.Core.Option.{none as absent}
use Prim.Native.Nat.{ℕ, ◌+◌, ◌≤◌, ◌<◌}
use native.Mathlib.Omega.{arith}
use lib.Dec.{eqb}
use Rattle.prelude.proofs.Absurd.{never}
use Rattle.prelude.proofs.Truth.{both_ways, by_test}
use Rattle.integers.specs.Bytes.{word}
use Rattle.values.specs.Value.{set, Value, collection, Items, none, more, size, Ascending, value_limit}
use Rattle.values.specs.Items.{same, is_member}
use Rattle.values.specs.Place.{At, ItemsAt, HoldsItems}
use Rattle.values.specs.Contract.{AreEqual, Copyable, Copied}
use Rattle.values.proofs.Order.{same_true, true_same}
use Rattle.values.proofs.Encoding.{collection_size}
use Rattle.values.proofs.Records.{holds, word_size, items_to, one-item, collection_shaped}
use Rattle.collections.specs.Building.{Added}
use Rattle.std.specs.Prelude.{Ok, Err}
use Rattle.prelude.specs.declared.Refusal.{Refusal}
use Rattle.prelude.specs.declared.Refusal.TheVariants.{WrongKind, TooLarge}
use Rattle.prelude.specs.Refusals.{number_of}
use Rattle.collections.specs.Finding.{HoldsKind, Contains}
use Rattle.collections.proofs.Built.{put_within, long_past, long_is}
use Rattle.operators.specs.Answer.{is, refused, wrong_kind, as_set, closed, sized}
use Rattle.operators.specs.Booleans.{truth}
use Rattle.operators.specs.Gather.{every_item, keep_items}
use Rattle.operators.specs.Sets.{unite, is_subset, is_empty, subtract}
use Rattle.operators.specs.Operators.{binary}
use Rattle.operator_laws.proofs.Enumerations.{fitting_built as fitting_is, fits_not}
use Rattle.operator_laws.proofs.Sets.{subset_all, subset_equal}
use Rattle.calling.specs.Scratch.{second, third}
use Rattle.calling.specs.Applied.{Applied}
use Rattle.calling.specs.Applied.{Two, OnTwo, Gives}
use Rattle.calling.proofs.Framing.{kept_outside, copyable_down}
use Rattle.calling.proofs.Answering.{two_by, two_off, is_off, two_gives, gives_same, two_copied}
use Rattle.calling.proofs.Kinding.{needs_off}
use Rattle.set_operators.specs.Members.{AllIn, as_wanted, wanted_of, Choice, Chosen, Merge, Merged}
use Rattle.gathering.specs.Inserting.{Grown}
use Rattle.set_operators.specs.Operands.{IsOfKind, TwoSets}
use Rattle.set_operators.proofs.Choosing.{as_wanted_lem}
use Rattle.set_operators.proofs.Merging.{members_same}
use Rattle.calling.proofs.Numbered.{binary_as}
use Rattle.set_operators.proofs.Telling.{either}

-- ---- 17 in set, 18 not in set

module _ {n : ℕ} (low : 17 ≤ n) (high : n ≤ 18) where
  member_is : (v : Value) (ws : Items) → binary n v (collection set ws) ≡ truth (as_wanted (eqb n 17) (is_member v ws))
  unfolding binary
  member_is v ws = either (λ (m : ℕ). binary m v (collection set ws) ≡ truth (as_wanted (eqb m 17) (is_member v ws))) 17 18 refl low high refl refl

  member_off : (v w : Value) → as_set w ≡ absent → binary n v w ≡ refused wrong_kind
  unfolding binary
  member_off v w e =
      either (λ (m : ℕ). binary m v w ≡ refused wrong_kind) 17 18 refl low high (needs_off (λ ws. truth (is_member v ws)) e) (needs_off (λ ws. truth (not (is_member v ws))) e)

  module _ {s : List ℕ} {base : ℕ} {r : Bool} (k : IsOfKind s (base + second) 3 r) where
    pub membership_off : r ≡ false → OnTwo (binary n) s s base (Err WrongKind)
    membership_off e = two_off (λ v w a b. member_off v w (k.no set refl e w b))

    pub membership_done : {t : List ℕ} {found : Bool} {q : Applied} → r ≡ true → Two s base → Contains s (base + second) base found → Gives (truth (beq found (eqb n 17))) s t base q → OnTwo (binary n) s t base q
    membership_done {found = found} e two c g =
        let h = k.yes set refl e in
        let v = two.left.value in
        let a = two.left.here in
        let w : found ≡ is_member v h.items = c h.items v h.here a in
        two_gives a h.here (gives_same (member_is v h.items ∙ ap (λ (b : Bool). truth (as_wanted (eqb n 17) b)) (sym w) ∙ ap truth (sym (as_wanted_lem found (eqb n 17)))) g)

-- ---- a set that was built

pub grown_done : {t : List ℕ} {at : ℕ} {us : Items} {r : Added} → Grown t at us r → r ≡ Ok tt → sized set us ≡ is (collection set us)
grown_done {us = us} g e =
    let h : size (collection set us) ≤ value_limit = put_within g.answers e in
    let c = collection_size set us in
    ap (closed set) (fitting_is us (omega arith))

pub grown_full : {t : List ℕ} {at : ℕ} {us : Items} {r : Added} {why : Refusal} → Grown t at us r → r ≡ Err why → sized set us ≡ refused (number_of why)
grown_full {us = us} {why = why} g e =
    let h : value_limit < size (collection set us) = long_past g.answers e in
    let c = collection_size set us in
    let long = long_is (size (collection set us)) g.answers e in
    let d : why ≡ TooLarge = cc in
    ap (closed set) (fits_not us (omega arith)) ∙ ap (λ (w : Refusal). refused (number_of w)) (sym d)

-- ---- 19 union

module _ {s : List ℕ} {base : ℕ} {b : Bool} (k : TwoSets s base b) (two : Two s base) where
  pub union_off : b ≡ false → OnTwo (binary 19) s s base (Err WrongKind)
  unfolding binary
  union_off e = two_off (λ v w x y. k.others e v w x y _)

  module _ (e : b ≡ true) where
    pub union_room : Merge s base (base + second) (base + third)
    union_room =
        let l = (holds (k.left e).here).high in
        let r = (holds (k.right e).here).high in
        let room = two.room in
        record { left = k.left e; right = k.right e; left_below = omega arith; right_below = omega arith; room = omega arith }

    module _ {t : List ℕ} {r : Added} (m : Merged s t base (base + second) (base + third) r) where
      united : Grown t (base + third) (unite (k.left e).items (k.right e).items) r
      united = m.right (k.left e).items (k.right e).items (k.left e).here (k.right e).here

      pub union_full : {why : Refusal} → r ≡ Err why → OnTwo (binary 19) s t base (Err why)
      unfolding binary
      union_full f = two_by (kept_outside (omega arith) m.frame) (k.left e).here (k.right e).here (is_off (grown_full united f))

      pub union_copy : r ≡ Ok tt → Copyable t (base + third) base
      union_copy f = copyable_down (omega arith) (holds (united.made f))

      pub union_done : r ≡ Ok tt → {u : List ℕ} {n : ℕ} → Copied t u (base + third) base n → OnTwo (binary 19) s u base (Ok tt)
      unfolding binary
      union_done f c = two_copied (kept_outside (omega arith) m.frame) (k.left e).here (k.right e).here (grown_done united f) (united.made f) c

-- ---- 20 inter, 21 difference

keep_same : (p q : Value → Bool) (vs : Items) → ((v : Value) → p v ≡ q v) → keep_items p vs ≡ keep_items q vs
unfolding keep_items
keep_same p q none f = refl
keep_same p q (more v vs) f = ap (λ (b : Bool). cond b (more v (keep_items p vs)) (keep_items p vs)) (f v) ∙ ap (λ (us : Items). cond (q v) (more v us) us) (keep_same p q vs f)

and-true : (b : Bool) → b ≡ b && true
and-true true = refl
and-true false = refl

module _ {op : ℕ} (low : 20 ≤ op) (high : op ≤ 21) where
  chosen_is : (vs ws : Items) → binary op (collection set vs) (collection set ws) ≡ is (collection set (wanted_of (eqb op 20) vs (more (collection set ws) none)))
  unfolding binary every_item
  chosen_is vs ws =
      either (λ (m : ℕ). binary m (collection set vs) (collection set ws) ≡ is (collection set (wanted_of (eqb m 20) vs (more (collection set ws) none)))) 20 21 refl low high
      (ap (λ (us : Items). is (collection set us)) (keep_same (λ v. is_member v ws) (λ v. is_member v ws && true) vs (λ v. and-true (is_member v ws))))
      (ap (λ (us : Items). is (collection set us)) (keep_same (λ v. not (is_member v ws)) (λ v. not (is_member v ws && true)) vs (λ v. ap not (and-true (is_member v ws)))))

  module _ {s : List ℕ} {base : ℕ} {b : Bool} (k : TwoSets s base b) (two : Two s base) where
    pub selection_off : b ≡ false → OnTwo (binary op) s s base (Err WrongKind)
    unfolding binary
    selection_off e =
        two_off (λ v w x y. either (λ (m : ℕ). binary m v w ≡ refused wrong_kind) 20 21 refl low high (k.others e v w x y _) (k.others e v w x y _))

    module _ (e : b ≡ true) (n : ℕ) (q : n ≡ word s (base + second)) where
      right_alone : ItemsAt s (base + second) (base + second + n) (more (collection set (k.right e).items) none)
      right_alone =
          let h = (k.right e).here in
          subst (λ (m : ℕ). ItemsAt s (base + second) (base + second + m) (more (collection set (k.right e).items) none)) (sym (q ∙ word_size h)) (one-item h)

      pub selection_room : Choice s base (base + second) (base + second + n) (base + third)
      unfolding every_item
      selection_room =
          let l = holds (k.left e).here in
          let r = holds (k.right e).here in
          let room = two.room in
          let lh = l.high in
          let rh = r.high in
          record {
            held = k.left e;
            below = omega arith;
            others = record { items = _; here = right_alone; sets = refl };
            under = omega arith;
            room = omega arith;
          }

      module _ {t : List ℕ} (c : Chosen s t base (base + second) (base + second + n) (base + third) (eqb op 20)) where
        selected : At t (base + third) (collection set (wanted_of (eqb op 20) (k.left e).items (more (collection set (k.right e).items) none)))
        selected = c.right (k.left e).items (more (collection set (k.right e).items) none) (k.left e).here right_alone

        pub selection_copy : Copyable t (base + third) base
        selection_copy = copyable_down (omega arith) (holds selected)

        pub selection_done : {u : List ℕ} {m : ℕ} → Copied t u (base + third) base m → OnTwo (binary op) s u base (Ok tt)
        selection_done d = two_copied (kept_outside (omega arith) c.frame) (k.left e).here (k.right e).here (chosen_is (k.left e).items (k.right e).items) selected d

-- ---- 22 subset, 23 psubset

-- none is outside where every one is inside
empty_without : (vs ws : Items) → is_empty (subtract ws vs) ≡ is_subset ws vs
unfolding keep_items every_item
empty_without vs none = refl
empty_without vs (more w ws) = go (is_member w vs) (empty_without vs ws)
  where
    go : (b : Bool) → is_empty (subtract ws vs) ≡ is_subset ws vs → is_empty (cond (not b) (more w (subtract ws vs)) (subtract ws vs)) ≡ b && is_subset ws vs
    go true e = e
    go false e = refl

subset_same : (vs ws : Items) → vs ≡ ws → is_subset vs ws ≡ true
subset_same vs ws e = subst (λ (us : Items). is_subset vs us ≡ true) e (subset_all vs vs (λ x m. m))

-- of two sets of which the first is inside, the second is too where they are the same
module _ (vs ws : Items) (a : Ascending vs) (b : Ascending ws) where
  same_is : is_subset vs ws ≡ true → is_subset ws vs ≡ same (collection set vs) (collection set ws)
  same_is e =
      both_ways (is_subset ws vs) (same (collection set vs) (collection set ws)) (λ f. true_same (ap (collection set) (subset_equal vs ws a b e f)))
      (λ g. subset_same ws vs (sym (members_same (same_true (collection set vs) (collection set ws) g))))

  same_not : is_subset vs ws ≡ false → same (collection set vs) (collection set ws) ≡ false
  same_not e =
      by_test (same (collection set vs) (collection set ws))
      (λ g. never (sym e ∙ subset_same vs ws (members_same (same_true (collection set vs) (collection set ws) g)))) (λ g. g)

  -- a proper subset is one that differs
  proper : is_subset vs ws && not (is_empty (subtract ws vs)) ≡ not (beq (is_subset vs ws) (same (collection set vs) (collection set ws)))
  proper =
      by_test (is_subset vs ws)
      (λ e.
      ap (λ (x : Bool). x && not (is_empty (subtract ws vs))) e ∙ ap not (empty_without vs ws ∙ same_is e) ∙ whole (same (collection set vs) (collection set ws))
      ∙ ap (λ (x : Bool). not (beq x (same (collection set vs) (collection set ws)))) (sym e))
      (λ e.
      ap (λ (x : Bool). x && not (is_empty (subtract ws vs))) e ∙ ap (λ (z : Bool). not (beq false z)) (sym (same_not e))
      ∙ ap (λ (x : Bool). not (beq x (same (collection set vs) (collection set ws)))) (sym e))
    where
      whole : (z : Bool) → not z ≡ not (beq true z)
      whole true = refl
      whole false = refl

module _ {s : List ℕ} {base : ℕ} {b : Bool} (k : TwoSets s base b) where
  pub inclusion_off : {op : ℕ} → 22 ≤ op → op ≤ 23 → b ≡ false → OnTwo (binary op) s s base (Err WrongKind)
  unfolding binary
  inclusion_off low high e =
      two_off (λ v w x y. either (λ (m : ℕ). binary m v w ≡ refused wrong_kind) 22 23 refl low high (k.others e v w x y _) (k.others e v w x y _))

  module _ (e : b ≡ true) (n : ℕ) (q : n ≡ word s base) where
    pub inclusion_room : HoldsItems s (base + 4) (base + n) × HoldsKind set s (base + second)
    inclusion_room = (((k.left e).items, items_to q (k.left e).here), k.right e)

    module _ {inside : Bool} (i : AllIn s (base + 4) (base + n) (base + second) inside) where
      inside_is : inside ≡ is_subset (k.left e).items (k.right e).items
      inside_is = i (k.left e).items (k.right e).items (items_to q (k.left e).here) (k.right e).here

      pub subset_done : {t : List ℕ} {op : ℕ} {r : Applied} → op ≡ 22 → Gives (truth inside) s t base r → OnTwo (binary op) s t base r
      unfolding binary
      subset_done d g = binary_as 22 d (two_gives (k.left e).here (k.right e).here (gives_same (ap truth (sym inside_is)) g))

      pub psubset_done : {t : List ℕ} {op : ℕ} {equal : Bool} {r : Applied} → op ≡ 23 → AreEqual s base (base + second) equal → Gives (truth (not (beq inside equal))) s t base r → OnTwo (binary op) s t base r
      unfolding binary
      psubset_done {equal = equal} d f g =
          let vs = (k.left e).items in
          let ws = (k.right e).items in
          let h : equal ≡ same (collection set vs) (collection set ws) = f (collection set vs) (collection set ws) (k.left e).here (k.right e).here in
          let p = proper vs ws (collection_shaped (k.left e).here.fine) (collection_shaped (k.right e).here.fine) in
          binary_as 23 d (two_gives (k.left e).here (k.right e).here (gives_same (ap truth (p ∙ sym (ap₂ (λ (x y : Bool). not (beq x y)) inside_is h))) g))
