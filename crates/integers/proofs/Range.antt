-- Laws of the range and of answers. Only `range_fits`, `fits_range` and the laws of sizes depend on the two limits themselves.
use mathlib.Core.Path.{◌≡◌, refl, sym, ap, ◌∙◌}
use mathlib.Core.Bool.{Bool, true, false, and-false, cond}
use Prim.Native.Nat.{zero, suc, ◌≤◌}
use native.Mathlib.Omega.{arith}
use borrow.Author.Tests.{leb-true, le-leb, ltb-true, ltb-false, lt-leb}
use lib.IntN.{ℤ, pos, negsuc}
use lib.Signed.{mag, lt_z, le_z}
use mir.Syntax.{w32}
use mir.Val.{SFits}
use mathlib.Mathlib.Data.Bool.Basic.{and_elim_left}
use Rattle.prelude.proofs.Truth.{by_test}
use Rattle.prelude.proofs.Absurd.{never}
use Rattle.std.specs.Prelude.{Option, Some, None, Ok, Err, SomeIff}
use Rattle.std.specs.Option.{ok_or}
use Rattle.prelude.specs.declared.Refusal.TheVariants.{OutOfRange, ByZero}
use Rattle.integers.specs.Whole.{least_integer, greatest_integer, in_range, InRange, ranged, divided}

-- ---- tests

lt_not_le : (a b : ℤ) → lt_z a b ≡ true → le_z b a ≡ false
lt_not_le (pos a) (pos b) e = lt-leb b a (ltb-true a b e)
lt_not_le (pos a) (negsuc b) e = never e
lt_not_le (negsuc a) (pos b) e = refl
lt_not_le (negsuc a) (negsuc b) e = lt-leb a b (ltb-true b a e)

not_lt_le : (a b : ℤ) → lt_z a b ≡ false → le_z b a ≡ true
not_lt_le (pos a) (pos b) e = le-leb b a (ltb-false a b e)
not_lt_le (pos a) (negsuc b) e = refl
not_lt_le (negsuc a) (pos b) e = sym e
not_lt_le (negsuc a) (negsuc b) e = le-leb a b (ltb-false b a e)

-- ---- the range

-- the range by two tests of order
pub below_range : (z : ℤ) → lt_z z least_integer ≡ true → in_range z ≡ false
below_range z e = rw (lt_not_le z least_integer e)

pub above_range : (z : ℤ) → le_z z greatest_integer ≡ false → in_range z ≡ false
above_range z e = rw e (and-false (le_z least_integer z))

pub within_range : (z : ℤ) → lt_z z least_integer ≡ false → le_z z greatest_integer ≡ true → InRange z
within_range z e f = rw (not_lt_le z least_integer e, f)

-- 32 bits hold each integer in range
pub range_fits : (z : ℤ) → InRange z → SFits w32 z
range_fits (pos n) e = omega (arith, leb-true n _ e)
range_fits (negsuc n) e = omega (arith, leb-true n _ (and_elim_left (le_z least_integer (negsuc n)) true e))

-- and with 2^32 integers there are no others
pub fits_range : (z : ℤ) → SFits w32 z → InRange z
fits_range (pos n) f = le-leb n (mag greatest_integer) (omega arith)
fits_range (negsuc n) f = rw (le-leb n (mag least_integer) (omega arith))

-- the limits are n and −(n + 1), so an integer is in range by its size alone
pub range_size : (z : ℤ) → InRange z → mag z ≤ mag greatest_integer
range_size (pos n) e = leb-true n _ e
range_size (negsuc n) e = leb-true n _ (and_elim_left (le_z least_integer (negsuc n)) true e)

pub size_range : (z : ℤ) → mag z ≤ mag greatest_integer → InRange z
size_range (pos n) h = le-leb n (mag greatest_integer) h
size_range (negsuc n) h = rw (le-leb n (mag least_integer) h)

-- ---- answers

pub answer_in : (z : ℤ) → InRange z → ranged z ≡ Ok z
unfolding ranged
answer_in z e = ap (λ (t : Bool). cond t (Ok z) (Err OutOfRange)) e

pub answer_out : (z : ℤ) → in_range z ≡ false → ranged z ≡ Err OutOfRange
unfolding ranged
answer_out z e = ap (λ (t : Bool). cond t (Ok z) (Err OutOfRange)) e

-- an integer in range, as it was computed
pub answer_is : {x z : ℤ} → x ≡ z → InRange z → Ok x ≡ ranged z
answer_is {z} e h = ap Ok e ∙ sym (answer_in z h)

-- what a checked operation of the machine finds, also one that asks something of its own
pub checked_is : (o : Option ℤ) (z : ℤ) → SomeIff o (SFits w32 z) z → ok_or o OutOfRange ≡ ranged z
checked_is None z h = sym (answer_out z (by_test (in_range z) (λ e. absurd (h (range_fits z e))) (λ e. e)))
checked_is (Some x) z h = answer_is h.1 (fits_range z h.0)

pub checked_by : {P : Type 0} (o : Option ℤ) (z : ℤ) → P → SomeIff o (P × SFits w32 z) z → ok_or o OutOfRange ≡ ranged z
checked_by None z p h = checked_is None z (λ f. h (p, f))
checked_by (Some x) z p h = checked_is (Some x) z (h.0.1, h.1)

-- ---- division

pub divided_other : (right z : ℤ) → (right ≡ pos 0 → ⊥) → divided right z ≡ ranged z
divided_other (pos zero) z n = absurd (n refl)
divided_other (pos (suc k)) z n = refl
divided_other (negsuc k) z n = refl

pub divided_zero : {right : ℤ} (z : ℤ) → right ≡ pos 0 → divided right z ≡ Err ByZero
divided_zero z e = ap (λ (r : ℤ). divided r z) e
