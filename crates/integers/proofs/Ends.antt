-- Which results of operations on integers in range are in range: all but the negation of the least integer.
use mathlib.Core.Path.{◌≡◌, refl, ap, ◌∙◌}
use mathlib.Core.Bool.{false}
use Prim.Native.Nat.{ℕ, zero, suc, ◌+◌, ◌*◌, ◌-◌, ◌/◌, ◌≤◌, ◌<◌}
use native.Mathlib.Omega.{arith}
use native.Mathlib.Nat.{div-le_self, div-add-mod, div-one, mul_comm, mul-suc}
use lib.IntN.{ℤ, pos, negsuc, neg_ℤ, nat_abs}
use lib.Signed.{mag, quot_z, rem_z, mag_rem}
use Rattle.integers.specs.declared.TheConstants.{LEAST, GREATEST}
use Rattle.integers.specs.Whole.{least_integer, greatest_integer, in_range, InRange, div_ℤ, rem_ℤ, mod_ℤ}
use Rattle.integers.proofs.Range.{range_size, size_range}
use Rattle.integers.proofs.Division.{rem-rest, mod_rest}

-- the ends that the code names are those of the range
pub least_is : LEAST ≡ least_integer
least_is = refl

pub greatest_is : GREATEST ≡ greatest_integer
greatest_is = refl

pub zero_in : InRange (pos 0)
zero_in = refl

pub least_in : InRange least_integer
least_in = refl

-- ---- negation

pub least_negated : in_range (neg_ℤ least_integer) ≡ false
least_negated = refl

pub other_negated : (z : ℤ) → InRange z → (z ≡ least_integer → ⊥) → InRange (neg_ℤ z)
other_negated (pos zero) h n = refl
other_negated (pos (suc k)) h n = size_range (negsuc k) (omega (arith, range_size (pos (suc k)) h))
other_negated (negsuc k) h n =
    let other : (k ≡ mag least_integer → ⊥) = λ e. n (ap negsuc e) in
    size_range (pos (suc k)) (omega (arith, range_size (negsuc k) h))

-- ---- by −1 the quotient is the negation, and nothing is left

pub div_minus_one : (z : ℤ) → div_ℤ z (negsuc 0) ≡ neg_ℤ z
div_minus_one (pos a) = ap (λ (n : ℕ). neg_ℤ (pos n)) (div-one a)
div_minus_one (negsuc a) = ap pos (div-one (suc a))

below_one : (z : ℤ) → nat_abs z < 1 → z ≡ pos 0
below_one (pos n) h = ap pos (omega arith)
below_one (negsuc n) h = absurd (omega arith)

minus_one_other : negsuc 0 ≡ pos 0 → ⊥
minus_one_other e = let q : ◌≡◌ {A = ℕ} 1 0 = ap nat_abs e in omega arith

pub rem_minus_one : (z : ℤ) → rem_ℤ z (negsuc 0) ≡ pos 0
rem_minus_one z = below_one (rem_ℤ z (negsuc 0)) (rem-rest z (negsuc 0) minus_one_other).smaller

pub mod_minus_one : (z : ℤ) → mod_ℤ z (negsuc 0) ≡ pos 0
mod_minus_one z = below_one (mod_ℤ z (negsuc 0)) (mod_rest z (negsuc 0) minus_one_other).smaller

-- ---- by another number

negated_size : (n : ℕ) → mag (neg_ℤ (pos n)) ≤ n - 1
negated_size zero = omega arith
negated_size (suc n) = omega arith

-- by two or more the quotient is smaller than the dividend
quotient_below : (a b : ℕ) → suc a / suc (suc b) ≤ a
quotient_below a b =
    let q = suc a / suc (suc b) in
    let e : suc (suc b) * q ≡ q * b + q + q = mul_comm (suc (suc b)) q ∙ mul-suc q (suc b) ∙ ap (λ (n : ℕ). n + q) (mul-suc q b) in
    omega (arith, div-add-mod (suc a) (suc (suc b)))

pub quotient_range : (left right : ℤ) → InRange left → (right ≡ negsuc 0 → ⊥) → InRange (quot_z left right)
quotient_range (pos a) (pos b) h n = size_range (pos (a / b)) (omega (arith, range_size (pos a) h, div-le_self a b))
quotient_range (pos a) (negsuc b) h n =
    size_range (neg_ℤ (pos (a / suc b))) (omega (arith, range_size (pos a) h, div-le_self a (suc b), negated_size (a / suc b)))
quotient_range (negsuc a) (pos b) h n =
    size_range (neg_ℤ (pos (suc a / b))) (omega (arith, range_size (negsuc a) h, div-le_self (suc a) b, negated_size (suc a / b)))
quotient_range (negsuc a) (negsuc zero) h n = absurd (n refl)
quotient_range (negsuc a) (negsuc (suc b)) h n =
    size_range (pos (suc a / suc (suc b))) (omega (arith, range_size (negsuc a) h, quotient_below a b))

-- rem is no larger than the dividend, and mod is smaller than the divisor
pub remainder_range : (left right : ℤ) → InRange left → InRange (rem_z left right)
remainder_range left right h = size_range (rem_z left right) (omega (arith, range_size left h, mag_rem left right))

smaller_range : (z right : ℤ) → InRange right → nat_abs z < nat_abs right → InRange z
smaller_range z right h l = size_range z (omega (arith, range_size right h, sizes z, sizes right))
  where
    sizes : (x : ℤ) → (mag x ≤ nat_abs x) × (nat_abs x ≤ mag x + 1)
    sizes (pos n) = (omega arith, omega arith)
    sizes (negsuc n) = (omega arith, omega arith)

pub modulus_range : (left right : ℤ) → InRange right → (right ≡ pos 0 → ⊥) → InRange (mod_ℤ left right)
modulus_range left right h n = smaller_range (mod_ℤ left right) right h (mod_rest left right n).smaller
