-- `compute` meets its contract: each number is its operation.
use mathlib.Core.Path.{refl, ap}
use native.Mathlib.Omega.{arith}
use Rattle.integers.specs.Whole as Whole
use Rattle.operators.specs.Arithmetic.{answered}
use Rattle.operators.specs.Operators.{binary}
use Rattle.scalars.proofs.Numbers.{by_binary}
use Rattle.calling.proofs.Numbered.{past_next, meet}
use Rattle.scalars.proofs.compute.Goals as goal

pub returns-in-7 : goal.returns-in-7
unfolding binary
returns-in-7 c =
    by_binary 7 c.args.operator (λ a b. answered (Whole.sum_of a b)) (omega (arith, c.in-7.is)) refl c.ranges.a c.ranges.b (ap answered c.add.ensures)

pub returns-in-8 : goal.returns-in-8
unfolding binary
returns-in-8 c =
    by_binary 8 c.args.operator (λ a b. answered (Whole.difference_of a b)) (omega (arith, c.in-8.is)) refl c.ranges.a c.ranges.b (ap answered c.sub.ensures)

pub returns-in-9 : goal.returns-in-9
unfolding binary
returns-in-9 c =
    by_binary 9 c.args.operator (λ a b. answered (Whole.product_of a b)) (omega (arith, c.in-9.is)) refl c.ranges.a c.ranges.b (ap answered c.mul.ensures)

pub returns-in-10 : goal.returns-in-10
unfolding binary
returns-in-10 c =
    by_binary 10 c.args.operator (λ a b. answered (Whole.quotient_of a b)) (omega (arith, c.in-10.is)) refl c.ranges.a c.ranges.b (ap answered c.div.ensures)

pub returns-in-11 : goal.returns-in-11
unfolding binary
returns-in-11 c =
    by_binary 11 c.args.operator (λ a b. answered (Whole.remainder_of a b)) (omega (arith, c.in-11.is)) refl c.ranges.a c.ranges.b (ap answered c.rem.ensures)

pub returns-in_default : goal.returns-in_default
unfolding binary
returns-in_default c =
    by_binary 12 c.args.operator (λ a b. answered (Whole.modulus_of a b)) (meet c.requires.1 (past_next (past_next (past_next (past_next (past_next c.requires.0 (omega arith)) (omega arith)) (omega arith)) (omega arith)) (omega arith))) refl c.ranges.a c.ranges.b (ap answered c.modulo.ensures)
