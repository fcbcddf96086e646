-- `set_operators::members::in_all` meets its contract: the answer from here on is the answer from the start on.
use native.Mathlib.Omega.{arith}
use Rattle.values.proofs.Records.{holds}
use Rattle.set_operators.proofs.Testing.{sets_start, sets_on, first_set, in_each, in_each_lem}
use Rattle.gathering.proofs.Testing.{test_start, test_fails, test_on, test_end}
use Rattle.set_operators.proofs.members.in_all.Goals as goal

pub loop-p-init : goal.loop-p-init
loop-p-init c = (test_start (in_each c.args.s.now c.args.x), sets_start)

pub contains-requires : goal.contains-requires
contains-requires c =
    let y = first_set c.loop-p.invariant.1 (omega arith) c.requires.1 in (record { items = y.members; here = y.set_at }, c.requires.0)

pub returns-then-not-contains : goal.returns-then-not-contains
returns-then-not-contains c =
    λ v ws a h. let y = first_set c.loop-p.invariant.1 (omega arith) c.requires.1 in test_fails (in_each c.args.s.now c.args.x) c.loop-p.invariant.0 (omega arith) (v, a) (in_each_lem c.contains.ensures c.if-not-contains.true y.set_at (v, a)) ws h

pub length_of-p-requires : goal.length_of-p-requires
length_of-p-requires c = holds (first_set c.loop-p.invariant.1 (omega arith) c.requires.1).set_at

pub overflow_add-p : goal.overflow_add-p
overflow_add-p c =
    let y = first_set c.loop-p.invariant.1 (omega arith) c.requires.1 in omega (arith, c.length_of-p.ensures.is)

pub loop-p-smaller : goal.loop-p-smaller
loop-p-smaller c =
    let y = first_set c.loop-p.invariant.1 (omega arith) c.requires.1 in omega (arith, c.length_of-p.ensures.is)

pub loop-p-preserved : goal.loop-p-preserved
loop-p-preserved c =
    let y = first_set c.loop-p.invariant.1 (omega arith) c.requires.1 in (test_on (in_each c.args.s.now c.args.x) c.loop-p.invariant.0 (omega arith) (in_each_lem c.contains.ensures c.if-not-contains.false y.set_at) _ c.length_of-p.ensures.is, sets_on c.loop-p.invariant.1 (omega arith) _ c.length_of-p.ensures.is)

pub returns : goal.returns
returns c = λ v ws a h. test_end (in_each c.args.s.now c.args.x) c.loop-p.invariant.0 (omega arith) (v, a) ws h
