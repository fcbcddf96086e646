-- `comparison` meets its contract: what is tested of the two integers is the answer.
use native.Mathlib.Omega.{arith}
use Rattle.operators.specs.Operators.{binary}
use Rattle.scalars.proofs.Numbers.{on_integers}
use Rattle.calling.proofs.Answering.{passed_up}
use Rattle.calling.proofs.Pairs.{pair_gives, pair_off}
use Rattle.scalars.proofs.comparison.Goals as goal

pub returns : goal.returns
returns c =
    pair_gives c.two_integers.ensures {f = binary c.args.operator} c.in_ok-a.was c.test.ensures c.put_truth.ensures

pub returns-in_err-a : goal.returns-in_err-a
returns-in_err-a c =
    let i = on_integers c.args.operator (omega arith) (omega arith) in rw (passed_up _ c.from_residual.ensures.1) (pair_off c.two_integers.ensures i.f i.is c.in_err-a.was)
