-- `compatible` meets its contract: the maps agree on the entries passed.
use mathlib.Core.Path.{refl}
use native.Mathlib.Omega.{arith}
use Rattle.values.proofs.Records.{holds, uncons}
use Rattle.map_operators.proofs.Agreeing.{agree_start, agree_next, agree_beside, agree_step, agree_off, agree_end}
use Rattle.map_operators.proofs.compatible.Goals as goal

pub overflow_add-end : goal.overflow_add-end
overflow_add-end c = omega arith

pub overflow_add-base : goal.overflow_add-base
overflow_add-base c = omega arith

pub length_of-requires : goal.length_of-requires
length_of-requires c = holds c.requires.right.here

pub overflow_add-end-2 : goal.overflow_add-end-2
overflow_add-end-2 c = omega arith

pub overflow_add-p : goal.overflow_add-p
overflow_add-p c = omega arith

pub overflow_add-p-2 : goal.overflow_add-p-2
overflow_add-p-2 c = omega arith

pub loop-p-init : goal.loop-p-init
loop-p-init c = agree_start c.length_of.ensures.is c.requires

pub length_of-requires-in-loop-p : goal.length_of-requires-in-loop-p
length_of-requires-in-loop-p c = holds (uncons (omega arith) c.loop-p.invariant.rest_at).first-at

pub overflow_add-v : goal.overflow_add-v
overflow_add-v c =
    let y = agree_next c.loop-p.invariant (omega arith) c.length_of-in-loop-p.ensures.is refl in let f = y.rest_at.fits in omega arith

pub agrees-requires : goal.agrees-requires
agrees-requires c = agree_beside c.loop-p.invariant (omega arith) c.length_of-in-loop-p.ensures.is

pub length_of-requires-in-loop-p-2 : goal.length_of-requires-in-loop-p-2
length_of-requires-in-loop-p-2 c = holds (agree_next c.loop-p.invariant (omega arith) c.length_of-in-loop-p.ensures.is refl).value_at

pub overflow_add-p-in-loop-p : goal.overflow_add-p-in-loop-p
overflow_add-p-in-loop-p c =
    let y = agree_next c.loop-p.invariant (omega arith) c.length_of-in-loop-p.ensures.is c.length_of-in-loop-p-2.ensures.is in let f = y.rest_at.fits in omega arith

pub loop-p-smaller : goal.loop-p-smaller
loop-p-smaller c =
    let y = agree_next c.loop-p.invariant (omega arith) c.length_of-in-loop-p.ensures.is c.length_of-in-loop-p-2.ensures.is in omega arith

pub loop-p-preserved : goal.loop-p-preserved
loop-p-preserved c =
    agree_step c.loop-p.invariant (omega arith) c.length_of-in-loop-p.ensures.is c.agrees.ensures c.if-not-agrees.false c.length_of-in-loop-p-2.ensures.is

pub returns-then-not-agrees : goal.returns-then-not-agrees
returns-then-not-agrees c =
    agree_off c.loop-p.invariant (omega arith) c.length_of-in-loop-p.ensures.is c.agrees.ensures c.if-not-agrees.true

pub returns : goal.returns
returns c = agree_end c.loop-p.invariant (omega arith)
