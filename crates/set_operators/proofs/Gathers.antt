-- What the code of the operators on a set of sets and of card did is what they promise.
use mathlib.Core.Path.{◌≡◌, refl, sym, ap, subst, ◌∙◌}
use mathlib.Core.Bool.{Bool, true, false}
use mathlib.Core.List.{List}
use Prim.Native.Nat.{ℕ, ◌+◌, ◌≤◌}
use native.Mathlib.Omega.{arith}
use lib.IntN.{ℤ, pos}
use mir.Syntax.{w32}
use mir.Val.{SFits, to_z}
use mir.ValLaws.{to_z_pos}
use Rattle.prelude.proofs.Truth.{cond-true, cond-false}
use Rattle.integers.specs.Bytes.{word}
use Rattle.integers.specs.Whole.{greatest_integer, InRange}
use Rattle.values.specs.Value.{set, integer, collection, none, count, value_limit}
use Rattle.values.specs.Place.{At, ItemsAt, Holds, HoldsItems}
use Rattle.values.specs.Contract.{Put, Copyable, Copied}
use Rattle.values.proofs.Encoding.{collection_size, count_sizes}
use Rattle.values.proofs.Records.{holds, items_to, items_none}
use Rattle.collections.specs.Building.{Added}
use Rattle.std.specs.Prelude.{Ok, Err}
use Rattle.prelude.specs.declared.Refusal.{Refusal}
use Rattle.prelude.specs.declared.Refusal.TheVariants.{WrongKind, NotThere}
use Rattle.collections.specs.Finding.{HoldsCollection, Counted}
use Rattle.collections.specs.Building.{Empties}
use Rattle.operators.specs.Answer.{is}
use Rattle.operators.specs.Gather.{every_item, insert_all, is_kind, flatten}
use Rattle.operators.specs.Sets.{intersection_of}
use Rattle.operators.specs.Operators.{unary}
use Rattle.operator_laws.proofs.Ranges.{up_le}
use Rattle.calling.specs.Applied.{One, OnOne}
use Rattle.calling.specs.Scratch.{second, third}
use Rattle.calling.proofs.Framing.{kept_same, kept_outside, copyable_down}
use Rattle.calling.proofs.Answering.{one_by, one_off, is_off, one_put, one_copied}
use Rattle.calling.proofs.Kinding.{needs_off}
use Rattle.set_operators.specs.Members.{HoldsSets, wanted_of, Choice, Chosen}
use Rattle.gathering.specs.Kinds.{AllOfKind}
use Rattle.gathering.proofs.Testing.{every_kind}
use Rattle.gathering.specs.Inserting.{Growing, Grown, InsertsAll}
use Rattle.gathering.proofs.Gathered.{still_there, empty_room, gathered, gathered_kept}
use Rattle.set_operators.specs.Operands.{IsOfKind}
use Rattle.set_operators.proofs.Telling.{Family, first_of_sets}
use Rattle.set_operators.proofs.Answers.{grown_done, grown_full}

-- ---- 4 card

module _ {s : List ℕ} {base : ℕ} {b : Bool} (k : IsOfKind s base 3 b) where
  pub card_off : b ≡ false → OnOne (unary 4) s s base (Err WrongKind)
  unfolding unary
  card_off e = one_off (λ v a. needs_off _ (k.no set refl e v a))

  pub card_room : b ≡ true → HoldsCollection s base
  card_room e = let h = k.yes set refl e in record { kind = set; items = h.items; here = h.here }

  -- the number of members is small
  card_few : {n : ℕ} → b ≡ true → Counted s base n → n ≤ value_limit
  card_few {n} e c =
      let h = k.yes set refl e in
      let q : n ≡ count h.items = c set h.items h.here in
      let z = collection_size set h.items in
      let short = h.here.fine.short in
      omega (arith, count_sizes h.items)

  module _ {n : ℕ} (e : b ≡ true) (c : Counted s base n) where
    few : n ≤ value_limit
    few = card_few e c

    exact : to_z w32 n ≡ pos n
    exact = let h = few in to_z_pos w32 n (omega arith)

    pub card_fits : SFits w32 (pos n)
    card_fits = let h = few in record { sfits = omega arith }

    pub card-range : InRange (to_z w32 n)
    card-range = let h = few in subst InRange (sym exact) (up_le (pos n) greatest_integer (omega arith))

    pub card_done : {t : List ℕ} {m r : ℕ} → Put s t base (integer (to_z w32 n)) m r → OnOne (unary 4) s t base (Ok tt)
    unfolding unary
    card_done p =
        let h = k.yes set refl e in
        one_put p h.here (ap (λ (z : ℤ). is (integer z)) (ap pos (sym (c set h.items h.here)) ∙ sym exact))

-- ---- a set that holds others than sets

module _ {s : List ℕ} {base : ℕ} {b : Bool} (k : IsOfKind s base 3 b) where
  pub set_items : b ≡ true → {n : ℕ} → n ≡ word s base → HoldsItems s (base + 4) (base + n)
  set_items e q = ((k.yes set refl e).items, items_to q (k.yes set refl e).here)

  pub union_of_none : b ≡ false → OnOne (unary 5) s s base (Err WrongKind)
  unfolding unary
  union_of_none e = one_off (λ v a. needs_off _ (k.no set refl e v a))

  pub intersection_of_none : b ≡ false → OnOne (unary 6) s s base (Err WrongKind)
  unfolding unary
  intersection_of_none e = one_off (λ v a. needs_off _ (k.no set refl e v a))

  module _ (e : b ≡ true) {n : ℕ} (q : n ≡ word s base) {c : Bool} (all : AllOfKind 3 s (base + 4) (base + n) c) (d : c ≡ false) where
    others : every_item (is_kind set) (k.yes set refl e).items ≡ false
    others = sym (every_kind set (k.yes set refl e).items) ∙ sym (all (k.yes set refl e).items (items_to q (k.yes set refl e).here)) ∙ d

    pub union_of_others : OnOne (unary 5) s s base (Err WrongKind)
    unfolding unary
    union_of_others = one_by (kept_same s base) (k.yes set refl e).here (is_off (cond-false _ _ _ others))

    pub intersection_of_others : OnOne (unary 6) s s base (Err WrongKind)
    unfolding unary
    intersection_of_others = one_by (kept_same s base) (k.yes set refl e).here (is_off (cond-false _ _ _ others))

-- ---- 5 dunion

module _ {s t : List ℕ} {base n : ℕ} (f : Family s base (base + n)) (one : One s base) (q : n ≡ word s base) (e : Empties s t (base + second) 3) where
  pub dunion_room : HoldsSets t (base + 4) (base + n) × Growing t (base + 4) (base + n) (base + second)
  dunion_room = (record { items = f.members; here = still_there f.here n q e one.room; sets = f.sets }, empty_room f.here n q e one.room)

  module _ {u : List ℕ} {r : Added} (i : InsertsAll flatten t u (base + 4) (base + n) (base + second) r) where
    grown : Grown u (base + second) (insert_all none (flatten f.members)) r
    grown = gathered f.here n q e one.room i

    pub dunion_full : {why : Refusal} → r ≡ Err why → OnOne (unary 5) s u base (Err why)
    unfolding unary
    dunion_full d = one_by (gathered_kept f.here n q e one.room i) f.here (is_off (cond-true _ _ _ f.sets ∙ grown_full grown d))

    pub dunion_copy : r ≡ Ok tt → Copyable u (base + second) base
    dunion_copy d = copyable_down (omega arith) (holds (grown.made d))

    pub dunion_done : r ≡ Ok tt → {w : List ℕ} {m : ℕ} → Copied u w (base + second) base m → OnOne (unary 5) s w base (Ok tt)
    unfolding unary
    dunion_done d c = one_copied (gathered_kept f.here n q e one.room i) f.here (cond-true _ _ _ f.sets ∙ grown_done grown d) (grown.made d) c

-- ---- 6 dinter

module _ {s : List ℕ} {base end : ℕ} (f : Family s base end) where
  pub dinter_none : end ≡ base + 4 → OnOne (unary 6) s s base (Err NotThere)
  unfolding unary
  dinter_none d =
      let h = items_none (omega arith) f.items in
      one_by (kept_same s base) f.here (is_off (cond-true _ _ _ f.sets ∙ ap intersection_of h))

  module _ (ne : end ≡ base + 4 → ⊥) where
    pub dinter_first : Holds s (base + 4)
    dinter_first = holds (first_of_sets f ne).first-at

    module _ (one : One s base) (n : ℕ) (q : n ≡ word s (base + 4)) where
      rest_at : ItemsAt s (base + 4 + n) end (first_of_sets f ne).rest
      rest_at = subst (λ (m : ℕ). ItemsAt s (base + 4 + m) end (first_of_sets f ne).rest) (sym q) (first_of_sets f ne).rest_at

      pub dinter_room : Choice s (base + 4) (base + 4 + n) end (base + third)
      dinter_room =
          let y = first_of_sets f ne in
          let room = one.room in
          let inside = y.inside in
          let high = f.high in
          record {
            held = record { items = y.members; here = y.first-at };
            below = omega arith;
            others = record { items = y.rest; here = rest_at; sets = y.sets };
            under = omega arith;
            room = omega arith;
          }

      module _ {t : List ℕ} (c : Chosen s t (base + 4) (base + 4 + n) end (base + third) true) where
        common : At t (base + third) (collection set (wanted_of true (first_of_sets f ne).members (first_of_sets f ne).rest))
        common = let y = first_of_sets f ne in c.right y.members y.rest y.first-at rest_at

        pub dinter_copy : Copyable t (base + third) base
        dinter_copy = copyable_down (omega arith) (holds common)

        pub dinter_done : {u : List ℕ} {m : ℕ} → Copied t u (base + third) base m → OnOne (unary 6) s u base (Ok tt)
        unfolding unary
        dinter_done d =
            one_copied (kept_outside (omega arith) c.frame) f.here (cond-true _ _ _ f.sets ∙ ap intersection_of (first_of_sets f ne).is) common d
