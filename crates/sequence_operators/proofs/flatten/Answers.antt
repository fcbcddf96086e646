-- `flatten` meets its contract: the items done, and those of the sequences left, are all.
use native.Mathlib.Omega.{arith}
use Rattle.values.proofs.Records.{holds}
use Rattle.sequence_operators.proofs.Flattening.{flat_start, flat_run, flat_wrong, flat_movable, flat_step, flat_end}
use Rattle.sequence_operators.proofs.flatten.Goals as goal

pub length_of-requires : goal.length_of-requires
length_of-requires c = holds c.requires.held.here

pub overflow_add-end : goal.overflow_add-end
overflow_add-end c = let b = holds c.requires.held.here in omega arith

pub overflow_add-p : goal.overflow_add-p
overflow_add-p c = let b = holds c.requires.held.here in omega arith

pub overflow_add-q : goal.overflow_add-q
overflow_add-q c = let b = holds c.requires.held.here in omega arith

pub loop-p-init : goal.loop-p-init
loop-p-init c = flat_start c.length_of.ensures.is c.requires

pub kind_of-requires : goal.kind_of-requires
kind_of-requires c = holds (flat_run c.loop-p.invariant (omega arith)).first-at

pub shape_of-s-then-kind_of-ne-SEQUENCE : goal.shape_of-s-then-kind_of-ne-SEQUENCE
shape_of-s-then-kind_of-ne-SEQUENCE c = c.loop-p.invariant.frame.long

pub returns-then-kind_of-ne-SEQUENCE : goal.returns-then-kind_of-ne-SEQUENCE
returns-then-kind_of-ne-SEQUENCE c = flat_wrong c.loop-p.invariant (omega arith) c.kind_of.ensures c.if-kind_of-ne-SEQUENCE.true

pub length_of-n-requires : goal.length_of-n-requires
length_of-n-requires c = holds (flat_run c.loop-p.invariant (omega arith)).first-at

pub overflow_add-p-in-loop-p : goal.overflow_add-p-in-loop-p
overflow_add-p-in-loop-p c = let y = flat_run c.loop-p.invariant (omega arith) in omega arith

pub overflow_sub-n : goal.overflow_sub-n
overflow_sub-n c = omega arith

pub copy_bytes-requires : goal.copy_bytes-requires
copy_bytes-requires c =
    flat_movable c.loop-p.invariant (omega arith) c.kind_of.ensures c.if-kind_of-ne-SEQUENCE.false c.length_of-n.ensures.is

pub overflow_sub-q : goal.overflow_sub-q
overflow_sub-q c = omega arith

pub overflow_add-q-in-loop-p : goal.overflow_add-q-in-loop-p
overflow_add-q-in-loop-p c = let y = flat_run c.loop-p.invariant (omega arith) in omega arith

pub overflow_add-p-in-loop-p-2 : goal.overflow_add-p-in-loop-p-2
overflow_add-p-in-loop-p-2 c = let y = flat_run c.loop-p.invariant (omega arith) in omega arith

pub loop-p-smaller : goal.loop-p-smaller
loop-p-smaller c = let y = flat_run c.loop-p.invariant (omega arith) in omega arith

pub loop-p-preserved : goal.loop-p-preserved
loop-p-preserved c =
    flat_step c.loop-p.invariant (omega arith) c.kind_of.ensures c.if-kind_of-ne-SEQUENCE.false c.length_of-n.ensures.is c.copy_bytes.ensures

pub overflow_sub-q-2 : goal.overflow_sub-q-2
overflow_sub-q-2 c = let d = c.loop-p.invariant.done_at.ends in omega arith

pub put_head-requires : goal.put_head-requires
put_head-requires c = let d = c.loop-p.invariant.done_at.ends in omega arith

pub shape_of-s : goal.shape_of-s
shape_of-s c = omega arith

pub returns : goal.returns
returns c = flat_end c.loop-p.invariant (omega arith) c.put_head.ensures
