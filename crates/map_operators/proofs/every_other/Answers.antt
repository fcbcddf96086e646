-- `every_other` meets its contract: those done are every other one of the items passed.
use native.Mathlib.Omega.{arith}
use Rattle.values.proofs.Records.{holds}
use Rattle.map_operators.proofs.Halving.{halving_start, halving_run, halving_movable, halving_keep, halving_past, halving_end}
use Rattle.map_operators.proofs.every_other.Goals as goal
use Rattle.map_operators.proofs.every_other.Goals.{then-wanted, else-wanted}

pub length_of-requires : goal.length_of-requires
length_of-requires c = holds c.requires.held.here

pub overflow_add-end : goal.overflow_add-end
overflow_add-end c = let h = holds c.requires.held.here in omega arith

pub overflow_add-p : goal.overflow_add-p
overflow_add-p c = omega arith

pub overflow_add-q : goal.overflow_add-q
overflow_add-q c = omega arith

pub loop-p-init : goal.loop-p-init
loop-p-init c = halving_start _ c.length_of.ensures.is c.requires

pub length_of-n-requires : goal.length_of-n-requires
length_of-n-requires c = holds (halving_run c.loop-p.invariant (omega arith)).first-at

pub overflow_add-next : goal.overflow_add-next
overflow_add-next c =
    let y = halving_run c.loop-p.invariant (omega arith) in let f = c.loop-p.invariant.rest_at.fits in omega arith

pub copy_bytes-requires : goal.copy_bytes-requires
copy_bytes-requires c = halving_movable c.loop-p.invariant (omega arith) c.length_of-n.ensures.is

pub overflow_add-q-then-wanted : goal.overflow_add-q-then-wanted
overflow_add-q-then-wanted c =
    let y = halving_run c.loop-p.invariant (omega arith) in let f = c.loop-p.invariant.rest_at.fits in let b = c.loop-p.invariant.behind in omega arith

pub loop-p-smaller : goal.loop-p-smaller
loop-p-smaller c = omega arith

pub loop-p-preserved : goal.loop-p-preserved
loop-p-preserved c =
    elim c.if-wanted.branch [
      | then-wanted w ↦ rw (w.s-is, w.q-is) (halving_keep c.loop-p.invariant (omega arith) c.length_of-n.ensures.is w.if-wanted.true w.copy_bytes.ensures)
      | else-wanted w ↦ rw (w.s-is, w.q-is) (halving_past c.loop-p.invariant (omega arith) c.length_of-n.ensures.is w.if-wanted.false)
    ]

pub overflow_sub-q : goal.overflow_sub-q
overflow_sub-q c = let d = c.loop-p.invariant.done_at.ends in omega arith

pub put_head-requires : goal.put_head-requires
put_head-requires c =
    let d = c.loop-p.invariant.done_at.ends in let f = c.loop-p.invariant.frame.long in let b = c.loop-p.invariant.behind in let x = c.loop-p.invariant.rest_at.ends in let i = c.loop-p.invariant.short in omega arith

pub shape_of-s : goal.shape_of-s
shape_of-s c = let f = c.loop-p.invariant.frame.long in omega arith

pub returns : goal.returns
returns c = halving_end c.loop-p.invariant (omega arith) c.put_head.ensures
