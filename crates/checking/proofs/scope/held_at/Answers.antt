-- The bits of the operands that are left make the rest.
use Rattle.checking.specs.Scopes.{bits_below}
use lib.ListN.{get_or}
use Rattle.checking.proofs.Below.{turn_start, turn_more, turn_end}
use Rattle.tables.specs.Accepted.{records}
use Rattle.tables.proofs.Laws.Accepted.{lower, operand_lower}
use native.Mathlib.Omega.{arith}
use mathlib.Core.Path.{ap, ◌∙◌}
use Rattle.checking.proofs.scope.held_at.Goals as goal

pub own-m-requires : goal.own-m-requires
own-m-requires c = c.requires.here

pub loop-i-init : goal.loop-i-init
loop-i-init c =
    turn_start (records c.args.sheet.now) c.args.r c.own-m.result (lower (records c.args.sheet.now) c.requires.clear) c.requires.here.within c.own-m.ensures

pub offset_bounds-below-operand : goal.offset_bounds-below-operand
offset_bounds-below-operand c = omega (arith, c.operand.ensures.1)

pub bounds-below-operand : goal.bounds-below-operand
bounds-below-operand c =
    omega (arith, c.operand.ensures.0, operand_lower (records c.args.sheet.now) c.requires.clear c.args.r c.loop-i.i c.requires.here.within (omega (arith, c.loop-i-test.true, c.operand_count-count.ensures.0)), c.requires.here.within, c.requires.here.few)

pub loop-i-preserved : goal.loop-i-preserved
loop-i-preserved c =
    turn_more (records c.args.sheet.now) c.args.r c.loop-i.m c.loop-i.i c.union-m.result (get_or c.args.below.now c.operand.result 0) c.loop-i.invariant (omega (arith, c.loop-i-test.true, c.operand_count-count.ensures.0)) (c.requires.below.is c.operand.result (omega (arith, c.operand.ensures.0, operand_lower (records c.args.sheet.now) c.requires.clear c.args.r c.loop-i.i c.requires.here.within (omega (arith, c.loop-i-test.true, c.operand_count-count.ensures.0)))) ∙ ap (bits_below (records c.args.sheet.now)) c.operand.ensures.0) c.union-m.ensures

pub returns : goal.returns
returns c =
    turn_end (records c.args.sheet.now) c.args.r c.loop-i.m c.loop-i.i c.loop-i.invariant (omega (arith, c.loop-i-test.false, c.operand_count-count.ensures.0))
