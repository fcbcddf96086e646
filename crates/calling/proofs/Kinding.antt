-- The kinds of operands: as `kind_of` reads them, and as operators ask for them.
use mathlib.Core.Path.{◌≡◌, refl, sym, ap, ap₂, subst, ◌∙◌}
use mathlib.Core.List.{List}
use mathlib.Core.Bool.{Bool, true, false, ◌&&◌, and-eq-true_iff}
use mathlib.Core.Option.{Option, none as absent, some}
use Prim.Native.Nat.{ℕ, ◌+◌}
use lib.Dec.{eqb}
use borrow.Author.Tests.{eqb-true, eqb-false, eq-eqb, ne_eqb}
use Rattle.prelude.proofs.Truth.{by_test}
use Rattle.values.specs.Value.{Kind, number, kind_of, Value, boolean, collection, Items}
use Rattle.values.specs.Place.{At, Holds}
use Rattle.values.specs.Contract.{KindAt}
use Rattle.values.proofs.Records.{one_value, is_boolean, held_as}
use Rattle.operators.specs.Answer.{Answer, refused, wrong_kind, as_boolean, as_integer, as_kind, needs, needs_both}
use Rattle.operator_laws.proofs.OfKind.{boolean_not, integer_not, of_kind_is, kind_not, kind_view}
use Rattle.calling.specs.Applied.{Applied}
use Rattle.std.specs.Prelude.{Err}
use Rattle.prelude.specs.declared.Refusal.{Refusal}
use Rattle.prelude.specs.declared.Refusal.TheVariants.{WrongKind}
use Rattle.prelude.specs.Refusals.{number_of}
use Rattle.calling.specs.Scratch.{second, Kept}
use Rattle.calling.specs.Applied.{One, Two, Applies, OnOne, OnTwo}
use Rattle.calling.specs.Operands.{Has, HasTwo, OnItems, OnBoth, KindsAre}
use Rattle.calling.proofs.Framing.{kept_same}
use Rattle.calling.proofs.Answering.{one_by, two_by, one_off, two_off, is_off}

-- ---- as `kind_of` reads them

module _ {s : List ℕ} {at k : ℕ} (read : KindAt s at k) where
  pub no_boolean : (k ≡ 1 → ⊥) → (v : Value) → At s at v → as_boolean v ≡ absent
  no_boolean f v a = boolean_not v (λ e. f (read.right v a ∙ e))

  pub no_integer : (k ≡ 2 → ⊥) → (v : Value) → At s at v → as_integer v ≡ absent
  no_integer f v a = integer_not v (λ e. f (read.right v a ∙ e))

  pub the_boolean : k ≡ 1 → Holds s at → (b : Bool) × At s at (boolean b)
  the_boolean e h = held_as boolean is_boolean h (sym read.is ∙ e)

  -- of a set, a sequence, a map or a tuple
  pub no_kind : (l : Kind) → (k ≡ number l → ⊥) → (v : Value) → At s at v → as_kind l v ≡ absent
  no_kind l f v a = kind_not l v (λ e. f (read.right v a ∙ e))

  pub the_kind : (l : Kind) → k ≡ number l → Holds s at → (vs : Items) × At s at (collection l vs)
  the_kind l e h = held_as (collection l) (of_kind_is l) h (sym read.is ∙ e)

-- 20 where an operand is of another kind
pub needs_off : {A : Type 0} {o : Option A} (f : A → Answer) → o ≡ absent → needs o f ≡ refused wrong_kind
needs_off {A} f e = ap (λ (x : Option A). needs x f) e

pub needs_left : {A B : Type 0} {o : Option A} (p : Option B) (f : A → B → Answer) → o ≡ absent → needs_both o p f ≡ refused wrong_kind
needs_left {A} p f e = ap (λ (x : Option A). needs_both x p f) e

pub needs_right : {A B : Type 0} (o : Option A) {p : Option B} (f : A → B → Answer) → p ≡ absent → needs_both o p f ≡ refused wrong_kind
needs_right absent f e = refl
needs_right {A} {B} (some a) f e = ap (λ (x : Option B). needs x (λ b. f a b)) e

-- ---- from the items that stand there

pub same_items : {k : Kind} {s : List ℕ} {at : ℕ} {vs ws : Items} → At s at (collection k vs) → At s at (collection k ws) → vs ≡ ws
same_items {k} {s} {at} {vs} {ws} a b = let e : collection k vs ≡ collection k ws = one_value a b in cc

pub items_by : {k : Kind} {f : Items → Answer} {s t : List ℕ} {base : ℕ} {r : Applied} {vs : Items} → Kept s t base → At s base (collection k vs) → Applies t base r (f vs) → OnItems k f s t base r
items_by {k} {f} {s} {t} {base} {r} {vs} kept a d = record { kept = kept; right = λ ws b. subst (λ (us : Items). Applies t base r (f us)) (same_items a b) d }

pub both_by : {k l : Kind} {f : Items → Items → Answer} {s t : List ℕ} {base : ℕ} {r : Applied} {vs ws : Items} → Kept s t base → At s base (collection k vs) → At s (base + second) (collection l ws)
    → Applies t base r (f vs ws) → OnBoth k l f s t base r
both_by {k} {l} {f} {s} {t} {base} {r} {vs} {ws} kept a b d = record {
  kept = kept;
  right = λ vs' ws' a' b'. subst (λ (us : Items). Applies t base r (f vs' us)) (same_items b b') (subst (λ (us : Items). Applies t base r (f us ws)) (same_items a a') d);
}

pub items_off : {k : Kind} {f : Items → Answer} {s : List ℕ} {base : ℕ} {e : Refusal} → ((vs : Items) → At s base (collection k vs) → f vs ≡ refused (number_of e)) → OnItems k f s s base (Err e)
items_off {s = s} {base = base} d = record { kept = kept_same s base; right = λ vs a. is_off (d vs a) }

pub both_off : {k l : Kind} {f : Items → Items → Answer} {s : List ℕ} {base : ℕ} {e : Refusal} → ((vs ws : Items) → At s base (collection k vs) → At s (base + second) (collection l ws) → f vs ws ≡ refused (number_of e)) → OnBoth k l f s s base (Err e)
both_off {s = s} {base = base} d = record { kept = kept_same s base; right = λ vs ws a b. is_off (d vs ws a b) }

-- ---- as operators ask for them

pub has : {s : List ℕ} {base kind : ℕ} (k : Kind) → One s base → KindAt s base kind → kind ≡ number k → Has k s base
has k o r e = let i = the_kind r k e o.held in record { held = record { items = i.0; here = i.1 }; room = o.room }

-- The kind tested, and then the items: where it is as asked, and where it is not.
module _ {k : Kind} {f : Items → Answer} {g : Value → Answer} (e : (v : Value) → g v ≡ needs (as_kind k v) f) where
  pub on_one : {s t : List ℕ} {base : ℕ} {r : Applied} → Has k s base → OnItems k f s t base r → OnOne g s t base r
  on_one {s} {t} {base} {r} h o =
      let vs = h.held.items in
      let a = h.held.here in
      one_by {f = g} o.kept a
      (subst (λ (x : Answer). Applies t base r x) (sym (e (collection k vs) ∙ ap (λ (i : Option Items). needs i f) (kind_view k vs))) (o.right vs a))

pub off_one : (k : Kind) {f : Items → Answer} {g : Value → Answer} → ((v : Value) → g v ≡ needs (as_kind k v) f) → {s : List ℕ} {base kind : ℕ} → KindAt s base kind → (kind ≡ number k → ⊥) → OnOne g s s base (Err WrongKind)
off_one k {f} e r n = one_off (λ v a. e v ∙ needs_off f (no_kind r k n v a))

-- Two operands that are of the kinds k and l.
pub has_two : {s : List ℕ} {base : ℕ} {r : Bool} (k l : Kind) → Two s base → KindsAre s base (number k) (number l) r → r ≡ true → HasTwo k l s base
has_two {s} {base} k l o c e =
    let v = o.left.value in
    let w = o.right.value in
    let a = o.left.here in
    let b = o.right.here in
    let p = (and-eq-true_iff (eqb (kind_of v) (number k)) (eqb (kind_of w) (number l))).0 (sym (c v w a b) ∙ e) in
    let i = of_kind_is k v (eqb-true (kind_of v) (number k) p.0) in
    let j = of_kind_is l w (eqb-true (kind_of w) (number l) p.1) in
    record {
      left = record { items = i.0; here = subst (λ (x : Value). At s base x) i.1 a };
      right = record { items = j.0; here = subst (λ (x : Value). At s (base + second) x) j.1 b };
      room = o.room;
    }

module _ {k l : Kind} {f : Items → Items → Answer} {g : Value → Value → Answer} (e : (v w : Value) → g v w ≡ needs_both (as_kind k v) (as_kind l w) f) where
  pub on_two : {s t : List ℕ} {base : ℕ} {r : Applied} → HasTwo k l s base → OnBoth k l f s t base r → OnTwo g s t base r
  on_two {s} {t} {base} {r} h o =
      let vs = h.left.items in
      let ws = h.right.items in
      let a = h.left.here in
      let b = h.right.here in
      two_by {f = g} o.kept a b
      (subst (λ (x : Answer). Applies t base r x)
      (sym
      (e (collection k vs) (collection l ws) ∙ ap (λ (i : Option Items). needs_both i (as_kind l (collection l ws)) f) (kind_view k vs)
      ∙ ap (λ (i : Option Items). needs i (f vs)) (kind_view l ws)))
      (o.right vs ws a b))

pub off_two : (k l : Kind) {f : Items → Items → Answer} {g : Value → Value → Answer} → ((v w : Value) → g v w ≡ needs_both (as_kind k v) (as_kind l w) f) → {s : List ℕ} {base : ℕ} {r : Bool} → KindsAre s base (number k) (number l) r → r ≡ false → OnTwo g s s base (Err WrongKind)
off_two k l {f} e c d =
    two_off
    (λ v w a b.
    e v w
    ∙ by_test (eqb (kind_of v) (number k))
    (λ x.
    needs_right (as_kind k v) f
    (kind_not l w (eqb-false (kind_of w) (number l) (ap (λ (y : Bool). y && eqb (kind_of w) (number l)) (sym x) ∙ sym (c v w a b) ∙ d))))
    (λ x. needs_left (as_kind l w) f (kind_not k v (eqb-false (kind_of v) (number k) x))))

-- ---- the kinds of two operands as one test

module _ {s : List ℕ} {base kind : ℕ} (b : ℕ) {a : ℕ} (r : KindAt s base kind) where
  pub kinds_not : (kind ≡ a → ⊥) → KindsAre s base a b false
  kinds_not n v w x y = sym (ap (λ (t : Bool). t && eqb (kind_of w) b) (ne_eqb (kind_of v) a (λ e. n (r.right v x ∙ e))))

  pub kinds_second : {other : ℕ} → kind ≡ a → KindAt s (base + second) other → KindsAre s base a b (eqb other b)
  kinds_second {other} e q v w x y =
      sym (ap₂ (λ (t u : Bool). t && u) (eq-eqb (kind_of v) a (sym (r.right v x) ∙ e)) (ap (λ (k : ℕ). eqb k b) (sym (q.right w y))))
