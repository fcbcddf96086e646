-- A test of all items from a place up to another, left at the first that fails; and that of their kind.
use mathlib.Core.Path.{◌≡◌, refl, sym, ap, ap₂, ◌∙◌}
use mathlib.Core.Bool.{Bool, true, false, ◌&&◌}
use mathlib.Core.List.{List}
use Prim.Native.Nat.{ℕ, ◌+◌, ◌≤◌, ◌<◌}
use borrow.Author.Tests.{eqb-true, eqb-false, eq-eqb, ne_eqb}
use lib.Dec.{eqb}
use Rattle.prelude.proofs.Truth.{by_test}
use Rattle.integers.specs.Bytes.{word}
use Rattle.values.specs.Value.{Kind, number, kind_of, Value, Items, none, more}
use Rattle.values.specs.Place.{At, ItemsAt}
use Rattle.values.specs.Contract.{KindAt}
use Rattle.operators.specs.Gather.{every_item, is_kind}
use Rattle.operator_laws.proofs.OfKind.{kind_test}
use Rattle.gathering.specs.Kinds.{of_kind}
use Rattle.gathering.proofs.Walks.{Walk, items_start, walked_first, items_on, walked_end}

pub every_more : (q : Value → Bool) (v : Value) (vs : Items) {b : Bool} → q v ≡ b → every_item q (more v vs) ≡ b && every_item q vs
unfolding every_item
every_more q v vs e = ap (λ (b : Bool). b && every_item q vs) e

-- the answer from here on is the answer from the start on, for each of the tests that it may be
abbrev pub Testing : {I : Type 0} → List ℕ → ℕ → ℕ → (I → Value → Bool) → ℕ → Type 0
Testing {I} s from to q p = Walk s from to (λ (vs rest : Items). (i : I) → every_item (q i) vs ≡ every_item (q i) rest) p

module _ {I : Type 0} {s : List ℕ} {from to : ℕ} (q : I → Value → Bool) where
  pub test_start : Testing s from to q from
  test_start = items_start (λ (vs rest : Items). (i : I) → every_item (q i) vs ≡ every_item (q i) rest) (λ vs i. refl)

  module _ {p : ℕ} (w : Testing s from to q p) where
    pub test_fails : p < to → (i : I) → ((v : Value) → At s p v → q i v ≡ false) → (vs : Items) → ItemsAt s from to vs → false ≡ every_item (q i) vs
    test_fails lt i f vs h =
        let y = walked_first lt (w vs h) in
        sym (y.so i ∙ every_more (q i) y.first y.rest (f y.first y.first-at))

    pub test_on : p < to → ((i : I) (v : Value) → At s p v → q i v ≡ true) → (n : ℕ) → n ≡ word s p → Testing s from to q (p + n)
    test_on lt f n e vs h =
        let y = walked_first lt (w vs h) in
        items_on y n e (λ i. y.so i ∙ every_more (q i) y.first y.rest (f i y.first y.first-at))

    pub test_end : to ≤ p → (i : I) → (vs : Items) → ItemsAt s from to vs → true ≡ every_item (q i) vs
    unfolding every_item
    test_end le i vs h = sym (walked_end le (w vs h) i)

-- two tests that are one
pub every_same : {p q : Value → Bool} → ((v : Value) → p v ≡ q v) → (vs : Items) → every_item p vs ≡ every_item q vs
unfolding every_item
every_same e none = refl
every_same e (more v vs) = ap₂ (λ (a b : Bool). a && b) (e v) (every_same e vs)

-- ---- kinds

pub kind_differs : {s : List ℕ} {p r n : ℕ} → KindAt s p r → (r ≡ n → ⊥) → (v : Value) → At s p v → of_kind n v ≡ false
kind_differs {n = n} h f v a = ne_eqb (kind_of v) n (λ e. f (h.right v a ∙ e))

pub kind_agrees : {s : List ℕ} {p r n : ℕ} → KindAt s p r → r ≡ n → (v : Value) → At s p v → of_kind n v ≡ true
kind_agrees {n = n} h e v a = eq-eqb (kind_of v) n (sym (h.right v a) ∙ e)

-- the kinds of collections by number
turned : (a b : ℕ) → eqb a b ≡ eqb b a
turned a b =
    by_test (eqb a b) (λ e. rw (e, eq-eqb b a (sym (eqb-true a b e))))
    (λ e. rw (e, ne_eqb b a (λ d. eqb-false a b e (sym d))))

pub every_kind : (k : Kind) (vs : Items) → every_item (of_kind (number k)) vs ≡ every_item (is_kind k) vs
every_kind k = every_same (λ v. turned (kind_of v) (number k) ∙ sym (kind_test k v))
