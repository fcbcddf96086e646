-- The integers of a sheet: their range, and what each operation on them answers.
use Rattle.std.specs.Prelude.{◌≡◌, Bool, true, ◌&&◌, cond, zero, suc, ◌/◌, ℤ, pos, negsuc, neg_ℤ, nat_abs, ◌+ℤ◌, ◌-ℤ◌, ◌*ℤ◌, Result, Ok, Err}
use Rattle.std.specs.Int.Signed.{le_z}
use Rattle.prelude.specs.declared.Refusal.{Refusal}
use Rattle.prelude.specs.declared.Refusal.TheVariants.{OutOfRange, ByZero}

-- ---- the range, named here and nowhere else

abbrev pub least_integer : ℤ
least_integer = neg_ℤ (pos 2147483648)

abbrev pub greatest_integer : ℤ
greatest_integer = pos 2147483647

abbrev pub in_range : ℤ → Bool
in_range z = le_z least_integer z && le_z z greatest_integer

abbrev pub InRange : ℤ → Type 0
InRange z = in_range z ≡ true

-- ---- answers

-- a whole number, or 21 (integer out of range) or 22 (div, rem or mod by 0)
abbrev pub Number : Type 0
Number = Result ℤ Refusal

-- a whole number that an operation gives, where it is in range
unfoldable pub ranged : ℤ → Number
ranged z = cond (in_range z) (Ok z) (Err OutOfRange)

-- a whole number that a division by `right` gives: of 0, none
abbrev pub divided : ℤ → ℤ → Number
divided (pos zero) z = Err ByZero
divided (pos (suc n)) z = ranged z
divided (negsuc n) z = ranged z

-- ---- the two quotients, where `right` is not 0 (`Division` says each by two inequalities)

-- left div right "cuts toward zero": the quotient of the two sizes, negative where one of the signs is
abbrev pub div_ℤ : ℤ → ℤ → ℤ
div_ℤ (pos a) (pos b) = pos (a / b)
div_ℤ (pos a) (negsuc b) = neg_ℤ (pos (a / suc b))
div_ℤ (negsuc a) (pos b) = neg_ℤ (pos (suc a / b))
div_ℤ (negsuc a) (negsuc b) = pos (suc a / suc b)

-- floor(left/right): the quotient rounded down, so −(n + 1) by b is −(n / b) − 1
abbrev pub floor_ℤ : ℤ → ℤ → ℤ
floor_ℤ (pos a) (pos b) = pos (a / b)
floor_ℤ (pos zero) (negsuc b) = pos zero
floor_ℤ (pos (suc a)) (negsuc b) = negsuc (a / suc b)
floor_ℤ (negsuc a) (pos b) = negsuc (a / b)
floor_ℤ (negsuc a) (negsuc b) = pos (suc a / suc b)

abbrev pub rem_ℤ : ℤ → ℤ → ℤ
rem_ℤ left right = left -ℤ right *ℤ div_ℤ left right

-- mod is left − right × floor(left/right)
abbrev pub mod_ℤ : ℤ → ℤ → ℤ
mod_ℤ left right = left -ℤ right *ℤ floor_ℤ left right

-- ---- the operations

abbrev pub sum_of : ℤ → ℤ → Number
sum_of left right = ranged (left +ℤ right)

abbrev pub difference_of : ℤ → ℤ → Number
difference_of left right = ranged (left -ℤ right)

abbrev pub product_of : ℤ → ℤ → Number
product_of left right = ranged (left *ℤ right)

abbrev pub quotient_of : ℤ → ℤ → Number
quotient_of left right = divided right (div_ℤ left right)

abbrev pub remainder_of : ℤ → ℤ → Number
remainder_of left right = divided right (rem_ℤ left right)

abbrev pub modulus_of : ℤ → ℤ → Number
modulus_of left right = divided right (mod_ℤ left right)

abbrev pub negation_of : ℤ → Number
negation_of z = ranged (neg_ℤ z)

abbrev pub absolute_of : ℤ → Number
absolute_of z = ranged (pos (nat_abs z))
