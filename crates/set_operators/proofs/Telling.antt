-- What the operands' kinds tell, and operators told apart by their numbers.
use mathlib.Core.Path.{◌≡◌, refl, sym, subst, ◌∙◌}
use mathlib.Core.Bool.{Bool, true, false}
use mathlib.Core.List.{List}
use Prim.Native.Nat.{ℕ, suc, ◌+◌, ◌≤◌}
use native.Mathlib.Omega.{arith}
use borrow.Author.Tests.{eqb-true, eqb-false}
use lib.Dec.{eqb}
use Rattle.prelude.proofs.Absurd.{impossible}
use Rattle.prelude.proofs.Truth.{by_test}
use Rattle.integers.specs.Bytes.{word}
use Rattle.values.specs.Value.{set, Value, collection, Items, more, value_limit}
use Rattle.values.specs.Place.{At, ItemsAt, Holds}
use Rattle.values.specs.Contract.{KindAt}
use Rattle.values.proofs.Records.{holds, items_to, uncons_of}
use Rattle.operators.specs.Answer.{as_set}
use Rattle.operators.specs.Gather.{every_item, is_kind}
use Rattle.calling.specs.Scratch.{second}
use Rattle.calling.proofs.Kinding.{the_kind, no_kind, needs_left, needs_right}
use Rattle.gathering.specs.Kinds.{AllOfKind}
use Rattle.gathering.proofs.Testing.{every_kind}
use Rattle.set_operators.specs.Operands.{IsOfKind, TwoSets}
use Rattle.set_operators.proofs.Testing.{set_is, sets_parts}

-- ---- kinds

pub kind_told : {s : List ℕ} {at k n : ℕ} → KindAt s at k → Holds s at → IsOfKind s at n (eqb k n)
kind_told {s} {at} {k} {n} r h =
    record {
      yes = λ l e t. let i = the_kind r l (eqb-true k n t ∙ e) h in record { items = i.0; here = i.1 };
      no = λ l e t. no_kind r l (λ d. eqb-false k n t (d ∙ sym e));
    }

pub left_no : {s : List ℕ} {base : ℕ} {a : Bool} → IsOfKind s base 3 a → a ≡ false → TwoSets s base false
left_no k e =
    record {
      left = λ t. absurd (never_true t);
      right = λ t. absurd (never_true t);
      others = λ t v w a b f. needs_left (as_set w) f (k.no set refl e v a);
    }
  where
    never_true : false ≡ true → ⊥
    never_true t = impossible cc

pub left_yes : {s : List ℕ} {base : ℕ} {a r : Bool} → IsOfKind s base 3 a → a ≡ true → IsOfKind s (base + second) 3 r → TwoSets s base r
left_yes k e l =
    record {
      left = λ t. k.yes set refl e;
      right = λ t. l.yes set refl t;
      others = λ t v w a b f. needs_right (as_set v) f (l.no set refl t w b);
    }

-- ---- numbers

-- one of two numbers
pub either : (P : ℕ → Type 0) {n : ℕ} (k l : ℕ) → l ≡ suc k → k ≤ n → n ≤ l → P k → P l → P n
either P {n} k l s h g p q = by_test (eqb n k) (λ e. subst P (sym (eqb-true n k e)) p) (λ e. subst P (higher (eqb-false n k e)) q)
  where
    higher : (n ≡ k → ⊥) → l ≡ n
    higher f = omega (arith, f)

-- ---- a set of sets

pub record Family (s : List ℕ) (base end : ℕ) : Type 0 where
  pub members : Items
  pub here : At s base (collection set members)
  pub items : ItemsAt s (base + 4) end members
  pub sets : every_item (is_kind set) members ≡ true
  pub low : base + 4 ≤ end
  pub high : end ≤ base + value_limit

pub family : {s : List ℕ} {base n : ℕ} {a : Bool} → IsOfKind s base 3 a → a ≡ true → n ≡ word s base → {b : Bool} → AllOfKind 3 s (base + 4) (base + n) b → b ≡ true → Family s base (base + n)
family k e q all t =
    let h = k.yes set refl e in
    let i = items_to q h.here in
    let x = holds h.here in
    let low = x.low in
    let high = x.high in
    record { members = h.items; here = h.here; items = i; sets = sym (every_kind set h.items) ∙ sym (all h.items i) ∙ t; low = omega arith; high = omega arith }

-- the first of them, and those after it
pub record FirstOf (s : List ℕ) (base end : ℕ) (vs : Items) : Type 0 where
  pub members : Items
  pub rest : Items
  pub is : vs ≡ more (collection set members) rest
  pub first-at : At s (base + 4) (collection set members)
  pub rest_at : ItemsAt s (base + 4 + word s (base + 4)) end rest
  pub sets : every_item (is_kind set) rest ≡ true
  pub inside : base + 4 + word s (base + 4) ≤ end

pub first_of_sets : {s : List ℕ} {base end : ℕ} → (f : Family s base end) → (end ≡ base + 4 → ⊥) → FirstOf s base end f.members
first_of_sets {s} {base} {end} f ne =
    let y = uncons_of (λ e. ne (sym e)) f.items in
    let p = sets_parts y.first y.rest (subst (λ (vs : Items). every_item (is_kind set) vs ≡ true) y.is f.sets) in
    let (us, e) = set_is y.first p.0 in
    record {
      members = us;
      rest = y.rest;
      is = subst (λ (v : Value). f.members ≡ more v y.rest) e y.is;
      first-at = subst (At s (base + 4)) e y.first-at;
      rest_at = y.rest_at;
      sets = p.1;
      inside = y.inside;
    }
