-- After i operands, what they come to; those are not left any more.
use mathlib.Core.Path.{refl, ◌∙◌}
use native.Mathlib.Omega.{arith}
use Rattle.tables.specs.Accepted.{records}
use Rattle.checking.proofs.Gathering.{gathers_start, gathers_end, ask_operand, operand_more, operand_stops, kind_most, binds_nothing}
use Rattle.checking.proofs.sweep.gather.Goals as goal

pub own_of-requires : goal.own_of-requires
own_of-requires c = (c.requires.0.ask.here, c.requires.0.is)

pub first_byte-first-requires : goal.first_byte-first-requires
first_byte-first-requires c = (c.requires.1, kind_most c.requires.0)

pub loop-i-init : goal.loop-i-init
loop-i-init c =
    gathers_start (records c.args.sheet.now) c.args.r c.args.left.now c.args.frees.now c.own_of.result 0 _ c.requires.0.ask.here.within c.requires.0.ask.left_is c.own_of.ensures 0 (binds_nothing c.requires.0 c.requires.1 c.requires.2).names (binds_nothing c.requires.0 c.requires.1 c.requires.2).free refl

pub add_operand-requires : goal.add_operand-requires
add_operand-requires c =
    ask_operand c.operand_from-n.result c.requires.0.ask.here c.loop-i.invariant c.operand_from-n.ensures.1

pub loop-i-preserved : goal.loop-i-preserved
loop-i-preserved c =
    operand_more c.requires.0 (binds_nothing c.requires.0 c.requires.1 c.requires.2).names c.loop-i.invariant (omega (arith, c.loop-i-test.true, c.operands_from-count.ensures.0)) c.operand_from-n.ensures.0 c.operand_from-n.ensures.1 (c.one_role-role.ensures ∙ (binds_nothing c.requires.0 c.requires.1 c.requires.2).role c.loop-i.i (omega (arith, c.loop-i-test.true, c.operands_from-count.ensures.0))) c.in_ok-s.ensures

pub returns : goal.returns
returns c =
    gathers_end c.requires.0.ask.here.within (binds_nothing c.requires.0 c.requires.1 c.requires.2).names (binds_nothing c.requires.0 c.requires.1 c.requires.2).free c.loop-i.invariant (omega (arith, c.loop-i-test.false, c.operands_from-count.ensures.0))

pub returns-in_err-s : goal.returns-in_err-s
returns-in_err-s c =
    rw c.from_residual.ensures
    (operand_stops c.requires.0 (binds_nothing c.requires.0 c.requires.1 c.requires.2).names c.loop-i.invariant (omega (arith, c.loop-i-test.true, c.operands_from-count.ensures.0)) c.operand_from-n.ensures.0 c.operand_from-n.ensures.1 (c.one_role-role.ensures ∙ (binds_nothing c.requires.0 c.requires.1 c.requires.2).role c.loop-i.i (omega (arith, c.loop-i-test.true, c.operands_from-count.ensures.0))) c.in_err-s.ensures)
