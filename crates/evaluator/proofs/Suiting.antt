-- Does what stands at a place suit a binder?
use mathlib.Core.Path.{◌≡◌, refl, sym, ap, subst, ◌∙◌}
use mathlib.Core.Bool.{Bool, true, false, ◌&&◌, cond}
use mathlib.Core.Option.{Option, some}
use mathlib.Core.Logic.{inl, inr}
use mathlib.Core.List.{List, [], ◌∷◌}
use Prim.Native.Nat.{ℕ, ◌+◌}
use lib.Dec.{eqb}
use borrow.Author.Tests.{eq-eqb, ne_eqb, eqb-true, eqb-false}
use Rattle.prelude.proofs.Absurd.{impossible}
use Rattle.integers.specs.Bytes.{word}
use Rattle.values.specs.Value.{set, Value, kind_of, collection, Items, none, more}
use Rattle.values.specs.Place.{At, Holds, HoldsItems}
use Rattle.values.specs.Contract.{KindAt}
use Rattle.values.proofs.Records.{one_value, items_to, is_integer}
use Rattle.choices.specs.Tree.{Tree, give, bind}
use Rattle.operators.specs.Answer.{as_integer, as_set}
use Rattle.operators.specs.Gather.{every_item}
use Rattle.operator_laws.proofs.OfKind.{integer_not}
use Rattle.patterns.specs.Pattern.{list_of}
use Rattle.parts.proofs.Laws.{as_list}
use Rattle.calling.proofs.Kinding.{no_kind, the_kind}
use Rattle.meaning.specs.Meaning.{or_else, integers_at}
use Rattle.bindings.specs.Window.{Values}
use Rattle.gathering.specs.Kinds.{of_kind, AllOfKind}
use Rattle.evaluator.specs.Binding.{wholly, values_for, Suits, fit, unfit}
use Rattle.evaluator.proofs.Collecting.{Integers, NotIntegers, integers_all, integers_not}

-- ---- all items

both_true : (a b : Bool) → a && b ≡ true → (a ≡ true) × (b ≡ true)
both_true true b e = (refl, e)
both_true false b e = impossible cc

every_integer : (vs : Items) → every_item (of_kind 2) vs ≡ true → Integers vs
unfolding every_item
every_integer none e = tt
every_integer (more v vs) e =
    let (a, b) = both_true (of_kind 2 v) (every_item (of_kind 2) vs) e in
    let (z, i) = is_integer v (eqb-true (kind_of v) 2 a) in
    ((z, ap as_integer i), every_integer vs b)

some_other : (vs : Items) → every_item (of_kind 2) vs ≡ false → NotIntegers vs
unfolding every_item
some_other none e = impossible cc
some_other (more v vs) e = go (of_kind 2 v) refl e (some_other vs)
  where
    go : (b : Bool) → of_kind 2 v ≡ b → b && every_item (of_kind 2) vs ≡ false → (every_item (of_kind 2) vs ≡ false → NotIntegers vs) → NotIntegers (more v vs)
    go true d h rec = inr (rec h)
    go false d h rec = inl (integer_not v (eqb-false (kind_of v) 2 d))

-- ---- by the kind of the binder

module _ (k : ℕ) {s : List ℕ} {at : ℕ} (h : Holds s at) where
  pub suits_let : k ≡ 12 → Suits k s at true
  suits_let e =
      let z = eq-eqb k 12 e in
      fit refl (h.value ∷ []) (subst (λ (b : Bool). Values s at b (h.value ∷ [])) (sym z) (h.value, h.here, refl)) (λ r v a. rw z (ap (λ (x : Value). give (x ∷ [])) (one_value a h.here)))

  module _ (other : k ≡ 12 → ⊥) {n : ℕ} (read : KindAt s at n) where
    not_let : eqb k 12 ≡ false
    not_let = ne_eqb k 12 other

    abbrev after : ℕ → Option Items → Tree (List Value)
    after r o = bind (or_else 20 r o) (λ vs. cond (eqb k 19) (bind (integers_at r vs) (λ ws. give (list_of ws))) (give (list_of vs)))

    pub suits_none : (n ≡ 3 → ⊥) → Suits k s at false
    suits_none f = unfit refl (λ r v a. rw not_let (ap (after r) (no_kind read set f v a)))

    module _ (is_set : n ≡ 3) where
      members : (vs : Items) × At s at (collection set vs)
      members = the_kind read set is_set h

      are_members : Values s at (wholly k) (list_of members.0)
      are_members = subst (λ (b : Bool). Values s at b (list_of members.0)) (sym not_let) (subst (At s at) (as_list set members.0) members.1)

      as_set_lem : (r : ℕ) (v : Value) → At s at v → values_for k r v ≡ after r (some members.0)
      as_set_lem r v a = rw not_let (ap (λ (x : Value). after r (as_set x)) (one_value a members.1))

      pub suits_set : (k ≡ 19 → ⊥) → Suits k s at true
      suits_set f = fit refl (list_of members.0) are_members (λ r v a. as_set_lem r v a ∙ rw (ne_eqb k 19 f) refl)

      pub suits_items : {m : ℕ} → m ≡ word s at → HoldsItems s (at + 4) (at + m)
      suits_items e = (members.0, items_to e members.1)

      pub suits_integers : k ≡ 19 → {m : ℕ} → m ≡ word s at → (b : Bool) → AllOfKind 2 s (at + 4) (at + m) b → Suits k s at b
      suits_integers d e true g =
          fit refl (list_of members.0) are_members (λ r v a. as_set_lem r v a ∙ rw (eq-eqb k 19 d) (ap (λ (t : Tree Items). bind t (λ ws. give (list_of ws))) (integers_all r members.0 (every_integer members.0 (sym (g members.0 (items_to e members.1)))))))
      suits_integers d e false g =
          unfit refl (λ r v a. as_set_lem r v a ∙ rw (eq-eqb k 19 d) (ap (λ (t : Tree Items). bind t (λ ws. give (list_of ws))) (integers_not r members.0 (some_other members.0 (sym (g members.0 (items_to e members.1)))))))
