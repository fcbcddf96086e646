-- `set_operators::members::merge` meets its contract: what is built is the union of the members passed.
use native.Mathlib.Omega.{arith}
use Rattle.values.proofs.Records.{holds}
use Rattle.set_operators.proofs.Merging.{merge_start, merge_holds, merge_full, merge_copy, merge_on, merge_less, merge_close}
use Rattle.set_operators.proofs.members.merge.Goals as goal

pub length_of-requires : goal.length_of-requires
length_of-requires c = holds c.requires.left.here

pub length_of-requires-2 : goal.length_of-requires-2
length_of-requires-2 c = holds c.requires.right.here

pub loop-a-init : goal.loop-a-init
loop-a-init c = merge_start c.requires c.length_of.ensures.is c.length_of-2.ensures.is

pub least_side-side-requires : goal.least_side-side-requires
least_side-side-requires c =
    ((c.loop-a.invariant.vs, c.loop-a.invariant.left_at), (c.loop-a.invariant.ws, c.loop-a.invariant.right_at))

pub length_of-requires-in-loop-a : goal.length_of-requires-in-loop-a
length_of-requires-in-loop-a c = merge_holds c.loop-a.invariant (omega arith) c.least_side-side.ensures c.in_order-least.ensures

pub returns-then-at-p : goal.returns-then-at-p
returns-then-at-p c =
    merge_full c.loop-a.invariant (omega arith) c.least_side-side.ensures c.in_order-least.ensures c.length_of-in-loop-a.ensures.is c.if-at-p.true

pub copy_value-next-requires : goal.copy_value-next-requires
copy_value-next-requires c =
    merge_copy c.loop-a.invariant (omega arith) c.least_side-side.ensures c.in_order-least.ensures c.length_of-in-loop-a.ensures.is c.if-at-p.false

pub overflow_sub-n : goal.overflow_sub-n
overflow_sub-n c = omega (arith, c.copy_value-next.ensures.ends)

pub loop-a-smaller : goal.loop-a-smaller
loop-a-smaller c =
    merge_less c.loop-a.invariant (omega arith) c.least_side-side.ensures c.in_order-least.ensures (omega (arith, c.copy_value-next.ensures.ends)) c.in_order-a.ensures c.in_order-b.ensures

pub loop-a-preserved : goal.loop-a-preserved
loop-a-preserved c =
    merge_on c.loop-a.invariant (omega arith) c.least_side-side.ensures c.in_order-least.ensures c.length_of-in-loop-a.ensures.is c.if-at-p.false c.copy_value-next.ensures c.in_order-a.ensures c.in_order-b.ensures

pub returns : goal.returns
returns c = merge_close c.loop-a.invariant (omega arith) (omega arith) c.put_head.ensures
