use native.Mathlib.Omega.{arith}
use Rattle.matching.proofs.Records.{has_operand, operand_readable, count_most}
use Rattle.forming.proofs.Settling.{told_start, told_more, told_few}
use Rattle.forming.proofs.Framing.{byte_low}
use Rattle.forming.proofs.settled.tests_of.Goals as goal

pub operand_count-i-requires : goal.operand_count-i-requires
operand_count-i-requires c = c.requires.readable.here

pub loop-i-init : goal.loop-i-init
loop-i-init c = told_start _

pub operand-q-requires : goal.operand-q-requires
operand-q-requires c =
    has_operand _ _ c.requires.readable _ (omega (arith, c.loop-i.invariant.within, c.operand_count-i.ensures.0))

pub is_settled-requires : goal.is_settled-requires
is_settled-requires c =
    (operand_readable _ _ c.requires.readable _ (omega (arith, c.loop-i.invariant.within, c.operand_count-i.ensures.0)) _ c.operand-q.ensures.0).0

pub overflow_mul-tests : goal.overflow_mul-tests
overflow_mul-tests c =
    omega (arith, told_few _ _ _ (omega (arith, c.operand_count-i.ensures.0, count_most _ _ c.requires.readable c.requires.composed)) c.loop-i.invariant)

pub overflow_add-tests : goal.overflow_add-tests
overflow_add-tests c =
    omega (arith, c.from.ensures, byte_low c.is_settled.result, told_few _ _ _ (omega (arith, c.operand_count-i.ensures.0, count_most _ _ c.requires.readable c.requires.composed)) c.loop-i.invariant)

pub loop-i-preserved : goal.loop-i-preserved
loop-i-preserved c = told_more _ _ _ _ _ (omega arith) (omega (arith, c.from.ensures, byte_low c.is_settled.result)) c.loop-i.invariant

pub returns : goal.returns
returns c =
    told_few _ _ _ (omega (arith, c.operand_count-i.ensures.0, count_most _ _ c.requires.readable c.requires.composed)) c.loop-i.invariant
