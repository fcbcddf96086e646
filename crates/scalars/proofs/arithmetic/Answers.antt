-- `arithmetic` meets its contract: what is computed of the two integers is the answer.
use native.Mathlib.Omega.{arith}
use Rattle.operators.specs.Operators.{binary}
use Rattle.scalars.proofs.Numbers.{on_integers}
use Rattle.calling.proofs.Answering.{passed_up}
use Rattle.calling.proofs.Pairs.{pair_fine, pair_gives, pair_off}
use borrow.Author.Rules.{rules}
use Rattle.scalars.proofs.arithmetic.Goals as goal

pub put_number-requires : goal.put_number-requires
put_number-requires c =
    (search rules, pair_fine c.two_integers.ensures c.args.operator c.in_ok-a.was c.compute.ensures)

pub returns : goal.returns
returns c =
    pair_gives c.two_integers.ensures {f = binary c.args.operator} c.in_ok-a.was c.compute.ensures c.put_number.ensures

pub returns-in_err-a : goal.returns-in_err-a
returns-in_err-a c =
    let i = on_integers c.args.operator (omega arith) (omega arith) in rw (passed_up _ c.from_residual.ensures.1) (pair_off c.two_integers.ensures i.f i.is c.in_err-a.was)
