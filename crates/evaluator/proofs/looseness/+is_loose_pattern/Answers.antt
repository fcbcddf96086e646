use mathlib.Core.Path.{refl, sym, ◌∙◌}
use native.Mathlib.Omega.{arith}
use Rattle.evaluator.proofs.Loosening.{loose_here, left_start, left_has, left_below, left_found, left_more, left_none}
use Rattle.evaluator.proofs.looseness.+is_loose_pattern.Goals as goal

pub kind-k-requires : goal.kind-k-requires
kind-k-requires t c = c.requires.1

pub returns-then-is_loose : goal.returns-then-is_loose
returns-then-is_loose t c =
    loose_here c.args.sheet.now c.args.p c.requires.0 c.requires.1 c.kind-k.ensures.0 (sym c.is_loose.ensures ∙ c.if-is_loose.true)

pub operand_count-n-requires : goal.operand_count-n-requires
operand_count-n-requires t c = c.requires.1

pub loop-i-init : goal.loop-i-init
loop-i-init t c =
    (c.requires.0, c.requires.1, left_start c.args.sheet.now c.args.p c.requires.0 c.requires.1 c.kind-k.ensures.0 (sym c.is_loose.ensures ∙ c.if-is_loose.false) c.operand_count-n.ensures.0)

pub operand-a-requires : goal.operand-a-requires
operand-a-requires t c = left_has c.args.sheet.now c.args.p c.loop-i.invariant.0 c.loop-i.invariant.1 c.loop-i.invariant.2 c.loop-i-test.true

pub is_loose_pattern-requires : goal.is_loose_pattern-requires
is_loose_pattern-requires t c =
    let h = left_below c.args.sheet.now c.args.p c.loop-i.invariant.0 c.loop-i.invariant.1 c.loop-i.invariant.2 c.loop-i-test.true c.operand-a.ensures.0 in (omega (arith, h.0, c.decreases), (c.requires.0, h.1))

pub returns-then-is_loose_pattern : goal.returns-then-is_loose_pattern
returns-then-is_loose_pattern t c =
    left_found c.args.sheet.now c.args.p c.loop-i.invariant.0 c.loop-i.invariant.1 c.loop-i.invariant.2 c.loop-i-test.true c.operand-a.ensures.0 c.is_loose_pattern.ensures c.if-is_loose_pattern.true

pub loop-i-preserved : goal.loop-i-preserved
loop-i-preserved t c =
    (c.loop-i.invariant.0, c.loop-i.invariant.1, left_more c.args.sheet.now c.args.p c.loop-i.invariant.0 c.loop-i.invariant.1 c.loop-i.invariant.2 c.loop-i-test.true c.operand-a.ensures.0 c.is_loose_pattern.ensures c.if-is_loose_pattern.false refl)

pub returns : goal.returns
returns t c = left_none c.args.sheet.now c.args.p c.loop-i.invariant.0 c.loop-i.invariant.1 c.loop-i.invariant.2 c.loop-i-test.false
