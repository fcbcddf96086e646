-- `reverse` meets its contract: what is put back is the last part of the items turned round.
use native.Mathlib.Omega.{arith}
use Rattle.values.proofs.Records.{holds}
use Rattle.sequence_operators.proofs.Turning.{reverse_copyable, reverse_start, reverse_run, reverse_low, reverse_copyable_on, reverse_step, reverse_end}
use Rattle.sequence_operators.proofs.reverse.Goals as goal

pub length_of-n-requires : goal.length_of-n-requires
length_of-n-requires c = holds c.requires.held.here

pub overflow_add-base : goal.overflow_add-base
overflow_add-base c = omega arith

pub copy_value-requires : goal.copy_value-requires
copy_value-requires c = reverse_copyable c.requires c.length_of-n.ensures.is

pub overflow_add-end : goal.overflow_add-end
overflow_add-end c = omega arith

pub overflow_add-end-2 : goal.overflow_add-end-2
overflow_add-end-2 c = omega arith

pub overflow_add-p : goal.overflow_add-p
overflow_add-p c = omega arith

pub overflow_add-p-2 : goal.overflow_add-p-2
overflow_add-p-2 c = omega arith

pub overflow_add-q : goal.overflow_add-q
overflow_add-q c = omega arith

pub loop-p-init : goal.loop-p-init
loop-p-init c = reverse_start c.requires c.length_of-n.ensures.is c.copy_value.ensures

pub length_of-m-requires : goal.length_of-m-requires
length_of-m-requires c = holds (reverse_run c.loop-p.invariant (omega arith)).first-at

pub overflow_sub-q : goal.overflow_sub-q
overflow_sub-q c = let l = reverse_low c.loop-p.invariant (omega arith) c.length_of-m.ensures.is in omega arith

pub copy_value-requires-in-loop-p : goal.copy_value-requires-in-loop-p
copy_value-requires-in-loop-p c = reverse_copyable_on c.loop-p.invariant (omega arith) c.length_of-m.ensures.is

pub overflow_add-p-in-loop-p : goal.overflow_add-p-in-loop-p
overflow_add-p-in-loop-p c = let y = reverse_run c.loop-p.invariant (omega arith) in omega arith

pub loop-p-smaller : goal.loop-p-smaller
loop-p-smaller c = let y = reverse_run c.loop-p.invariant (omega arith) in omega arith

pub loop-p-preserved : goal.loop-p-preserved
loop-p-preserved c =
    reverse_step c.loop-p.invariant (omega arith) c.length_of-m.ensures.is c.copy_value-in-loop-p.ensures

pub shape_of-s : goal.shape_of-s
shape_of-s c = omega arith

pub returns : goal.returns
returns c = reverse_end c.loop-p.invariant (omega arith) c.requires c.copy_value.ensures
