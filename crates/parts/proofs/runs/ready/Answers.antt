-- `ready`: what is chosen of the rest is what is chosen of all.
use native.Mathlib.Omega.{arith}
use Rattle.values.proofs.Records.{holds}
use Rattle.parts.proofs.Running.{seeking_start, seeking_held, seeking_more, seeking_found, seeking_end, between}
use Rattle.parts.proofs.runs.ready.Goals as goal

pub loop-from-init : goal.loop-from-init
loop-from-init c = seeking_start c.requires

pub returns-then-mask-eq1 : goal.returns-then-mask-eq1
returns-then-mask-eq1 c = seeking_found c.loop-from.invariant c.if-mask-eq1.true

pub length_of-from-requires : goal.length_of-from-requires
length_of-from-requires c = holds (seeking_held c.loop-from.invariant c.loop-from-test.true).first-at

pub overflow_add-from : goal.overflow_add-from
overflow_add-from c =
    let x = seeking_held c.loop-from.invariant c.loop-from-test.true in
    let e = c.length_of-from.ensures.is in
    let b = between _ c.loop-from.invariant.here in
    omega arith

pub loop-from-smaller : goal.loop-from-smaller
loop-from-smaller c =
    let l = c.length_of-from.ensures.low in
    omega arith

pub loop-from-preserved : goal.loop-from-preserved
loop-from-preserved c =
    seeking_more c.loop-from.invariant _ c.loop-from-test.true c.if-mask-eq1.false c.length_of-from.ensures.is

pub returns : goal.returns
returns c = seeking_end c.loop-from.invariant c.loop-from-test.false
