-- After i operands, the numbers named before operand i are marked.
use Rattle.checking.proofs.Marks.{operands_start, operands_more, operands_end}
use Rattle.tables.specs.Check.{named_before}
use Rattle.tables.specs.Accepted.{records}
use native.Mathlib.Omega.{arith}
use mathlib.Core.Path.{refl}
use Rattle.checking.proofs.naming.mark_operands.Goals as goal

pub loop-i-init : goal.loop-i-init
loop-i-init c = operands_start (records c.args.sheet.now) c.args.r c.args.marks.now c.requires.marked

pub is_bad-bad-requires : goal.is_bad-bad-requires
is_bad-bad-requires c =
    record { operand = record { here = c.requires.here; has = omega (arith, c.loop-i-test.true, c.operand_count-count.ensures.0) }; marked = c.loop-i.invariant.marked }

pub loop-i-preserved : goal.loop-i-preserved
loop-i-preserved c =
    operands_more (records c.args.sheet.now) c.args.r c.loop-i.i c.operand.result c.loop-i.marks _ c.loop-i.bad _ c.is_bad-bad.result c.loop-i.invariant (omega (arith, c.loop-i-test.true, c.operand_count-count.ensures.0)) c.operand.ensures.0 c.is_bad-bad.ensures refl (c.mark.ensures (named_before (records c.args.sheet.now) c.args.r c.loop-i.i) c.loop-i.invariant.marked)

pub returns : goal.returns
returns c =
    operands_end c.args.sheet.now c.args.r c.loop-i.marks c.loop-i.bad c.loop-i.i c.requires.here.within c.loop-i.invariant (omega (arith, c.loop-i-test.false, c.operand_count-count.ensures.0))
