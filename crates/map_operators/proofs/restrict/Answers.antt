-- `restrict` meets its contract: those done are the entries passed that pass the test.
use mathlib.Core.Path.{refl}
use native.Mathlib.Omega.{arith}
use Rattle.values.proofs.Records.{holds, uncons}
use Rattle.map_operators.proofs.Restricting.{restrict_start, restrict_next, restrict_beside, restrict_movable, restrict_keep, restrict_past, restrict_end}
use Rattle.map_operators.proofs.restrict.Goals as goal

pub length_of-requires : goal.length_of-requires
length_of-requires c = holds c.requires.held.here

pub overflow_add-end : goal.overflow_add-end
overflow_add-end c = let h = holds c.requires.held.here in omega arith

pub overflow_add-p : goal.overflow_add-p
overflow_add-p c = let h = holds c.requires.held.here in omega arith

pub overflow_add-q : goal.overflow_add-q
overflow_add-q c = let h = holds c.requires.held.here in omega arith

pub loop-p-init : goal.loop-p-init
loop-p-init c = restrict_start _ c.length_of.ensures.is c.requires

pub length_of-requires-in-loop-p : goal.length_of-requires-in-loop-p
length_of-requires-in-loop-p c = holds (uncons (omega arith) c.loop-p.invariant.pack.rest_at).first-at

pub overflow_add-v : goal.overflow_add-v
overflow_add-v c =
    let y = restrict_next c.loop-p.invariant (omega arith) c.length_of-in-loop-p.ensures.is refl in let f = y.rest_at.fits in omega arith

pub length_of-requires-in-loop-p-2 : goal.length_of-requires-in-loop-p-2
length_of-requires-in-loop-p-2 c =
    holds (restrict_next c.loop-p.invariant (omega arith) c.length_of-in-loop-p.ensures.is refl).value_at

pub overflow_add-next : goal.overflow_add-next
overflow_add-next c =
    let y = restrict_next c.loop-p.invariant (omega arith) c.length_of-in-loop-p.ensures.is c.length_of-in-loop-p-2.ensures.is in let f = y.rest_at.fits in omega arith

pub passes-requires : goal.passes-requires
passes-requires c =
    restrict_beside c.loop-p.invariant (omega arith) c.length_of-in-loop-p.ensures.is c.length_of-in-loop-p-2.ensures.is

pub overflow_sub-next : goal.overflow_sub-next
overflow_sub-next c = omega arith

pub copy_bytes-requires : goal.copy_bytes-requires
copy_bytes-requires c =
    restrict_movable c.loop-p.invariant (omega arith) c.length_of-in-loop-p.ensures.is c.length_of-in-loop-p-2.ensures.is

pub overflow_sub-q : goal.overflow_sub-q
overflow_sub-q c = omega arith

pub overflow_add-q-then-passes : goal.overflow_add-q-then-passes
overflow_add-q-then-passes c =
    let y = restrict_next c.loop-p.invariant (omega arith) c.length_of-in-loop-p.ensures.is c.length_of-in-loop-p-2.ensures.is in let f = y.rest_at.fits in let b = c.loop-p.invariant.pack.behind in omega arith

pub loop-p-smaller-then-passes : goal.loop-p-smaller-then-passes
loop-p-smaller-then-passes c =
    let y = restrict_next c.loop-p.invariant (omega arith) c.length_of-in-loop-p.ensures.is c.length_of-in-loop-p-2.ensures.is in omega arith

pub loop-p-preserved-then-passes : goal.loop-p-preserved-then-passes
loop-p-preserved-then-passes c =
    restrict_keep c.loop-p.invariant (omega arith) c.length_of-in-loop-p.ensures.is c.length_of-in-loop-p-2.ensures.is c.passes.ensures c.if-passes.true c.copy_bytes.ensures

pub loop-p-smaller : goal.loop-p-smaller
loop-p-smaller c =
    let y = restrict_next c.loop-p.invariant (omega arith) c.length_of-in-loop-p.ensures.is c.length_of-in-loop-p-2.ensures.is in omega arith

pub loop-p-preserved : goal.loop-p-preserved
loop-p-preserved c =
    restrict_past c.loop-p.invariant (omega arith) c.length_of-in-loop-p.ensures.is c.length_of-in-loop-p-2.ensures.is c.passes.ensures c.if-passes.false

pub overflow_sub-q-2 : goal.overflow_sub-q-2
overflow_sub-q-2 c = let d = c.loop-p.invariant.pack.done_at.ends in omega arith

pub put_head-requires : goal.put_head-requires
put_head-requires c =
    let d = c.loop-p.invariant.pack.done_at.ends in let f = c.loop-p.invariant.pack.frame.long in let h = holds c.requires.held.here in let b = c.loop-p.invariant.pack.behind in let x = c.loop-p.invariant.pack.rest_at.ends in let i = c.loop-p.invariant.pack.short in omega arith

pub shape_of-s : goal.shape_of-s
shape_of-s c = let f = c.loop-p.invariant.pack.frame.long in omega arith

pub returns : goal.returns
returns c = restrict_end c.loop-p.invariant (omega arith) c.put_head.ensures
