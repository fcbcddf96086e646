-- The operators on integers: source 000, section 3.1.2, pages 9 and 10. Range and divisions are those of `integers`.
use Rattle.std.specs.Prelude.{Bool, ℤ, Ok, Err}
use Rattle.std.specs.Int.Signed.{lt_z, le_z}
use Rattle.prelude.specs.Refusals.{number_of}
use Rattle.integers.specs.Whole
use Rattle.integers.specs.Whole.{Number}
use Rattle.values.specs.Value.{Value, integer}
use Rattle.operators.specs.Answer.{Answer, is, refused, as_integer, needs, needs_both}
use Rattle.operators.specs.Booleans.{truth}

-- An integer, 21 or 22.
abbrev pub answered : Number → Answer
answered (Ok z) = is (integer z)
answered (Err e) = refused (number_of e)

-- An operation on one integer, on two, and a comparison of two.
abbrev pub on_integer : (ℤ → Number) → Value → Answer
on_integer f v = needs (as_integer v) (λ a. answered (f a))

abbrev pub on_integers : (ℤ → ℤ → Number) → Value → Value → Answer
on_integers f v w = needs_both (as_integer v) (as_integer w) (λ a b. answered (f a b))

abbrev pub compared : (ℤ → ℤ → Bool) → Value → Value → Answer
compared p v w = needs_both (as_integer v) (as_integer w) (λ a b. truth (p a b))

-- −x, abs x (page 9)
abbrev pub unary_minus : Value → Answer
unary_minus v = on_integer (λ a. Whole.negation_of a) v

abbrev pub absolute_value : Value → Answer
absolute_value v = on_integer (λ a. Whole.absolute_of a) v

-- x + y, x − y, x * y (page 9)
abbrev pub sum : Value → Value → Answer
sum v w = on_integers (λ a b. Whole.sum_of a b) v w

abbrev pub minus : Value → Value → Answer
minus v w = on_integers (λ a b. Whole.difference_of a b) v w

abbrev pub product : Value → Value → Answer
product v w = on_integers (λ a b. Whole.product_of a b) v w

-- x div y, x rem y, x mod y (pages 9 and 10)
abbrev pub integer_division : Value → Value → Answer
integer_division v w = on_integers (λ a b. Whole.quotient_of a b) v w

abbrev pub remainder : Value → Value → Answer
remainder v w = on_integers (λ a b. Whole.remainder_of a b) v w

abbrev pub modulus : Value → Value → Answer
modulus v w = on_integers (λ a b. Whole.modulus_of a b) v w

-- x < y, x <= y, x > y, x >= y (page 9)
abbrev pub less_than : Value → Value → Answer
less_than v w = compared (λ a b. lt_z a b) v w

abbrev pub less_or_equal : Value → Value → Answer
less_or_equal v w = compared (λ a b. le_z a b) v w

abbrev pub greater_than : Value → Value → Answer
greater_than v w = compared (λ a b. lt_z b a) v w

abbrev pub greater_or_equal : Value → Value → Answer
greater_or_equal v w = compared (λ a b. le_z b a) v w
