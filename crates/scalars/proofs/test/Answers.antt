-- `test` meets its contract: each number is its comparison.
use mathlib.Core.Path.{refl}
use native.Mathlib.Omega.{arith}
use lib.Signed.{lt_z, le_z}
use Rattle.operators.specs.Booleans.{truth}
use Rattle.operators.specs.Operators.{binary}
use Rattle.scalars.proofs.Numbers.{by_binary}
use Rattle.scalars.proofs.test.Goals as goal

pub returns-in-13 : goal.returns-in-13
unfolding binary
returns-in-13 c =
    by_binary 13 c.args.operator (λ a b. truth (lt_z a b)) (omega (arith, c.in-13.is)) refl c.ranges.a c.ranges.b refl

pub returns-in-14 : goal.returns-in-14
unfolding binary
returns-in-14 c =
    by_binary 14 c.args.operator (λ a b. truth (le_z a b)) (omega (arith, c.in-14.is)) refl c.ranges.a c.ranges.b refl

pub returns-in-15 : goal.returns-in-15
unfolding binary
returns-in-15 c =
    by_binary 15 c.args.operator (λ a b. truth (lt_z b a)) (omega (arith, c.in-15.is)) refl c.ranges.a c.ranges.b refl

pub returns-in_default : goal.returns-in_default
unfolding binary
returns-in_default c =
    by_binary 16 c.args.operator (λ a b. truth (le_z b a)) (omega arith) refl c.ranges.a c.ranges.b refl
