use native.Mathlib.Omega.{arith}
use Rattle.matching.proofs.Records.{count_most}
use Rattle.forming.proofs.Pushing.{push_start, part_asked, push_more, push_not, push_end}
use Rattle.forming.proofs.push_where.Goals as goal

pub kind-k-requires : goal.kind-k-requires
kind-k-requires c = c.requires.composed.readable.here

pub operand_count-n-requires : goal.operand_count-n-requires
operand_count-n-requires c = c.requires.composed.readable.here

pub unpack-part-requires : goal.unpack-part-requires
unpack-part-requires c = tt

pub loop-i-init : goal.loop-i-init
loop-i-init c = push_start _ _ _ _ _ _ _ _ _ _ c.requires _ c.operand_count-n.ensures.0

pub overflow_shr-bits : goal.overflow_shr-bits
overflow_shr-bits c =
    omega (arith, c.loop-i.invariant.within, count_most _ _ c.requires.composed.readable c.requires.composed.composed)

pub push_part-requires : goal.push_part-requires
push_part-requires c =
    part_asked _ _ _ _ _ _ _ _ _ _ c.requires _ _ (omega arith) _ _ _ c.loop-i.invariant (omega arith) c.if-bits-i.true _ _ c.kind-k.ensures.0 c.operand_count-n.ensures.0 _ c.unpack-part.ensures

pub overflow_add-to : goal.overflow_add-to
overflow_add-to c = omega (arith, c.loop-i.invariant.room)

pub loop-i-smaller-then-bits-i : goal.loop-i-smaller-then-bits-i
loop-i-smaller-then-bits-i c = omega arith

pub loop-i-preserved-then-bits-i : goal.loop-i-preserved-then-bits-i
loop-i-preserved-then-bits-i c =
    push_more _ _ _ _ _ _ _ _ _ _ c.requires _ _ (omega arith) _ _ _ c.loop-i.invariant (omega arith) c.if-bits-i.true _ c.unpack-part.ensures _ c.push_part.ensures

pub loop-i-preserved : goal.loop-i-preserved
loop-i-preserved c =
    push_not _ _ _ _ _ _ _ _ _ _ c.requires _ _ (omega arith) _ _ _ c.loop-i.invariant (omega arith) c.if-bits-i.false

pub returns : goal.returns
returns c = push_end _ _ _ _ _ _ _ _ _ _ c.requires _ _ _ _ (omega arith) c.loop-i.invariant
