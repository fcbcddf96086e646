-- The sample sheets' answers on integers, by computation.
use mathlib.Core.Path.{◌≡◌, refl}
use lib.IntN.{neg_ℤ, pos}
use Rattle.std.specs.Prelude.{Ok, Err}
use Rattle.prelude.specs.declared.Refusal.TheVariants.{OutOfRange, ByZero}
use Rattle.integers.specs.Whole.{least_integer, greatest_integer, ranged, sum_of, difference_of, product_of, quotient_of, remainder_of, modulus_of, negation_of, absolute_of}

-- −7 div 2 is −3
div_7_2 : quotient_of (neg_ℤ (pos 7)) (pos 2) ≡ Ok (neg_ℤ (pos 3))
unfolding ranged
div_7_2 = refl

-- −7 rem 2 is −1
rem_7_2 : remainder_of (neg_ℤ (pos 7)) (pos 2) ≡ Ok (neg_ℤ (pos 1))
unfolding ranged
rem_7_2 = refl

-- −7 mod 2 is 1
mod_7_2 : modulus_of (neg_ℤ (pos 7)) (pos 2) ≡ Ok (pos 1)
unfolding ranged
mod_7_2 = refl

-- 7 mod −2 is −1
mod_7_minus_2 : modulus_of (pos 7) (neg_ℤ (pos 2)) ≡ Ok (neg_ℤ (pos 1))
unfolding ranged
mod_7_minus_2 = refl

-- the least integer div −1 is out of range, and rem −1 is 0
least_div : quotient_of least_integer (neg_ℤ (pos 1)) ≡ Err OutOfRange
unfolding ranged
least_div = refl

least_rem : remainder_of least_integer (neg_ℤ (pos 1)) ≡ Ok (pos 0)
unfolding ranged
least_rem = refl

-- ---- the range's other ends, and 0

least_mod : modulus_of least_integer (neg_ℤ (pos 1)) ≡ Ok (pos 0)
unfolding ranged
least_mod = refl

least_negation : negation_of least_integer ≡ Err OutOfRange
unfolding ranged
least_negation = refl

least_absolute : absolute_of least_integer ≡ Err OutOfRange
unfolding ranged
least_absolute = refl

greatest_sum : sum_of greatest_integer (pos 1) ≡ Err OutOfRange
unfolding ranged
greatest_sum = refl

least_difference : difference_of least_integer (pos 1) ≡ Err OutOfRange
unfolding ranged
least_difference = refl

least_product : product_of least_integer (pos 1) ≡ Ok least_integer
unfolding ranged
least_product = refl

least_by_0 : remainder_of least_integer (pos 0) ≡ Err ByZero
unfolding ranged
least_by_0 = refl
