use mathlib.Core.Path.{refl, sym, ◌∙◌}
use native.Mathlib.Omega.{arith}
use Rattle.forming.proofs.Pushing.{push_start, part_asked, push_more, push_end, zero_bit, others_asked, pushed_all}
use Rattle.forming.proofs.push_all.Goals as goal

pub kind-k-requires : goal.kind-k-requires
kind-k-requires c = c.requires.composed.readable.here

pub operand_count-n-requires : goal.operand_count-n-requires
operand_count-n-requires c = c.requires.composed.readable.here

pub unpack-part-requires : goal.unpack-part-requires
unpack-part-requires c = tt

pub push_halves-requires : goal.push_halves-requires
push_halves-requires c =
    rw c.unpack-part.ensures (c.requires, c.kind-k.ensures.0, sym c.is_split.ensures ∙ c.if-is_split.true)

pub returns-then-is_split : goal.returns-then-is_split
returns-then-is_split c = rw c.unpack-part.ensures at c.push_halves.ensures

pub loop-i-init : goal.loop-i-init
loop-i-init c =
    push_start _ _ _ _ _ _ _ _ _ _ (others_asked _ _ _ _ _ _ _ _ 0 c.requires) _ c.operand_count-n.ensures.0

pub push_part-requires : goal.push_part-requires
push_part-requires c =
    part_asked _ _ _ _ _ _ _ _ _ _ (others_asked _ _ _ _ _ _ _ _ 0 c.requires) _ _ (omega arith) _ _ _ c.loop-i.invariant (omega arith) (zero_bit _) _ _ c.kind-k.ensures.0 c.operand_count-n.ensures.0 _ c.unpack-part.ensures

pub overflow_add-to : goal.overflow_add-to
overflow_add-to c = omega (arith, c.loop-i.invariant.room)

pub loop-i-preserved : goal.loop-i-preserved
loop-i-preserved c =
    push_more _ _ _ _ _ _ _ _ _ _ (others_asked _ _ _ _ _ _ _ _ 0 c.requires) _ _ (omega arith) _ _ _ c.loop-i.invariant (omega arith) (zero_bit _) _ c.unpack-part.ensures _ c.push_part.ensures

pub returns : goal.returns
returns c =
    pushed_all _ _ _ _ _ _ _ _ _ c.requires _ _ (push_end _ _ _ _ _ _ _ _ _ _ (others_asked _ _ _ _ _ _ _ _ 0 c.requires) _ _ _ _ (omega arith) c.loop-i.invariant) refl
