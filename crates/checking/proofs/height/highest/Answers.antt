-- The greatest so far, and the heights of the operands that are left.
use native.Mathlib.Omega.{arith}
use mathlib.Core.Path.{◌∙◌}
use Rattle.tables.specs.Accepted.{records}
use Rattle.tables.proofs.Laws.Accepted.{operand_lower}
use Rattle.checking.proofs.Heights.{going_start, going_more, going_end, max_is}
use Rattle.checking.proofs.height.highest.Goals as goal

pub loop-i-init : goal.loop-i-init
loop-i-init c = going_start (records c.args.sheet.now) c.requires.clear c.args.r c.requires.here.within

pub bounds-heights-n : goal.bounds-heights-n
bounds-heights-n c =
    omega (arith, c.operand-n.ensures.0, operand_lower (records c.args.sheet.now) c.requires.clear c.args.r c.loop-i.i c.requires.here.within (omega (arith, c.loop-i-test.true, c.operand_count-count.ensures.0)), c.requires.here.within, c.requires.here.few)

pub loop-i-preserved : goal.loop-i-preserved
loop-i-preserved c =
    going_more (records c.args.sheet.now) c.requires.clear c.args.r c.requires.here.within c.args.heights.now c.loop-i.high _ c.from.result c.loop-i.i c.operand-n.result c.requires.noted c.loop-i.invariant (omega (arith, c.loop-i-test.true, c.operand_count-count.ensures.0)) c.operand-n.ensures.0 c.from.ensures (c.max-high.ensures ∙ max_is c.loop-i.high c.from.result)

pub returns : goal.returns
returns c =
    going_end (records c.args.sheet.now) c.requires.clear c.args.r c.requires.here.within c.loop-i.high c.loop-i.i c.loop-i.invariant (omega (arith, c.loop-i-test.false, c.operand_count-count.ensures.0))
