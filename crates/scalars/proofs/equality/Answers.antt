-- `equality` meets its contract: whether the two are equal, or not.
use mathlib.Core.Path.{◌≡◌, refl}
use mathlib.Core.Bool.{not}
use native.Mathlib.Omega.{arith}
use Rattle.operators.specs.Operators.{binary}
use Rattle.scalars.proofs.Equals.{equal_gives}
use Rattle.scalars.proofs.equality.Goals as goal

pub returns-then-operator-eq-EQUAL : goal.returns-then-operator-eq-EQUAL
unfolding binary
returns-then-operator-eq-EQUAL c =
    equal_gives 5 (λ b. b) (λ v w. refl) c.if-operator-eq-EQUAL.true c.requires.0 c.equal-equal.ensures c.put_truth.ensures

pub returns : goal.returns
unfolding binary
returns c =
    let e : c.args.operator ≡ 6 = omega arith in equal_gives 6 not (λ v w. refl) e c.requires.0 c.equal-equal.ensures c.put_truth-2.ensures
