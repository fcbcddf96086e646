-- After i operands, the numbers named before operand i are marked.
use native.Mathlib.Omega.{arith}
use Rattle.tables.specs.Check.{named_before}
use Rattle.tables.specs.Accepted.{records}
use Rattle.checking.proofs.Marks.{names_start, names_more, names_end}
use Rattle.checking.proofs.naming.mark_named.Goals as goal

pub loop-i-init : goal.loop-i-init
loop-i-init c = names_start (records c.args.sheet.now) c.args.r c.args.marks.now c.requires.marked

pub loop-i-preserved : goal.loop-i-preserved
loop-i-preserved c =
    names_more (records c.args.sheet.now) c.args.r c.loop-i.i c.operand.result _ (omega (arith, c.loop-i-test.true, c.operand_count-count.ensures.0)) c.operand.ensures.0 (c.mark.ensures (named_before (records c.args.sheet.now) c.args.r c.loop-i.i) c.loop-i.invariant.marked)

pub returns : goal.returns
returns c =
    names_end (records c.args.sheet.now) c.args.r c.loop-i.i c.loop-i.marks c.requires.here.within c.loop-i.invariant (omega (arith, c.loop-i-test.false, c.operand_count-count.ensures.0))
