-- `set_operators::all_in` meets its contract: the answer from here on is the answer from the start on.
use native.Mathlib.Omega.{arith}
use Rattle.values.proofs.Records.{holds}
use Rattle.set_operators.proofs.Testing.{in_set, in_set_lem}
use Rattle.gathering.proofs.Testing.{test_start, test_fails, test_on, test_end}
use Rattle.gathering.proofs.Walks.{walked_first}
use Rattle.set_operators.proofs.all_in.Goals as goal

pub loop-p-init : goal.loop-p-init
loop-p-init c = test_start (in_set c.args.s.now c.args.at)

pub length_of-requires : goal.length_of-requires
length_of-requires c =
    let h = c.requires.0 in let y = walked_first (omega arith) (c.loop-p.invariant h.0 h.1) in holds y.first-at

pub overflow_add-next : goal.overflow_add-next
overflow_add-next c =
    let h = c.requires.0 in let y = walked_first (omega arith) (c.loop-p.invariant h.0 h.1) in omega (arith, c.length_of.ensures.is)

pub contains-requires : goal.contains-requires
contains-requires c =
    let h = c.requires.0 in let y = walked_first (omega arith) (c.loop-p.invariant h.0 h.1) in (c.requires.1, holds y.first-at)

pub returns-then-not-contains : goal.returns-then-not-contains
returns-then-not-contains c =
    λ vs ws h a. test_fails (in_set c.args.s.now c.args.at) c.loop-p.invariant (omega arith) (ws, a) (in_set_lem c.contains.ensures c.if-not-contains.true (ws, a)) vs h

pub loop-p-smaller : goal.loop-p-smaller
loop-p-smaller c =
    let h = c.requires.0 in let y = walked_first (omega arith) (c.loop-p.invariant h.0 h.1) in omega (arith, c.length_of.ensures.is)

pub loop-p-preserved : goal.loop-p-preserved
loop-p-preserved c =
    test_on (in_set c.args.s.now c.args.at) c.loop-p.invariant (omega arith) (in_set_lem c.contains.ensures c.if-not-contains.false) _ c.length_of.ensures.is

pub returns : goal.returns
returns c = λ vs ws h a. test_end (in_set c.args.s.now c.args.at) c.loop-p.invariant (omega arith) (ws, a) vs h
