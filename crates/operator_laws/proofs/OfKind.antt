-- What the number of a value's kind says of the value, and of the view that an operator asks for.
use mathlib.Core.Path.{◌≡◌, refl, sym, ap}
use mathlib.Core.Bool.{Bool, cond}
use mathlib.Core.Option.{none as absent, some}
use native.Mathlib.Omega.{arith}
use borrow.Author.Tests.{eq-eqb, ne_eqb}
use lib.Dec.{eqb}
use Rattle.values.specs.Value.{Kind, number, kind_of, Value, boolean, integer, quote, collection, Items}
use Rattle.values.proofs.Order.{number_low, number_high, number_inj}
use Rattle.operators.specs.Answer.{as_boolean, as_integer, as_kind}
use Rattle.operators.specs.Gather.{is_kind}

-- A value of this kind is what the view finds (`is_boolean`, `is_integer` of values, Records), and nothing else is.
pub boolean_not : (v : Value) → (kind_of v ≡ 1 → ⊥) → as_boolean v ≡ absent
boolean_not (boolean b) f = absurd (f refl)
boolean_not (integer z) f = refl
boolean_not (quote n) f = refl
boolean_not (collection k vs) f = refl

pub integer_not : (v : Value) → (kind_of v ≡ 2 → ⊥) → as_integer v ≡ absent
integer_not (boolean b) f = refl
integer_not (integer z) f = absurd (f refl)
integer_not (quote n) f = refl
integer_not (collection k vs) f = refl

pub of_kind_is : (k : Kind) (v : Value) → kind_of v ≡ number k → (vs : Items) × (v ≡ collection k vs)
of_kind_is k (boolean b) e = absurd (omega (arith, number_low k))
of_kind_is k (integer z) e = absurd (omega (arith, number_low k))
of_kind_is k (quote n) e = absurd (omega (arith, number_high k))
of_kind_is k (collection l vs) e = (vs, ap (λ (j : Kind). collection j vs) (number_inj l k e))

pub kind_not : (k : Kind) (v : Value) → (kind_of v ≡ number k → ⊥) → as_kind k v ≡ absent
kind_not k (boolean b) f = refl
kind_not k (integer z) f = refl
kind_not k (quote n) f = refl
kind_not k (collection l vs) f = ap (λ (t : Bool). cond t (some vs) absent) (ne_eqb (number k) (number l) (λ e. f (sym e)))

-- The view of a collection of the kind asked for. (Where the kind is given it computes.)
pub kind_view : (k : Kind) (vs : Items) → as_kind k (collection k vs) ≡ some vs
kind_view k vs = ap (λ (t : Bool). cond t (some vs) absent) (eq-eqb (number k) (number k) refl)

-- The test of a member's kind is one of its number.
pub kind_test : (k : Kind) (v : Value) → is_kind k v ≡ eqb (number k) (kind_of v)
kind_test k (boolean b) = sym (ne_eqb (number k) 1 (λ e. omega (arith, number_low k)))
kind_test k (integer z) = sym (ne_eqb (number k) 2 (λ e. omega (arith, number_low k)))
kind_test k (quote n) = sym (ne_eqb (number k) 7 (λ e. omega (arith, number_high k)))
kind_test k (collection l vs) = refl
