-- `count`: the number of items passed.
use native.Mathlib.Omega.{arith}
use Rattle.parts.proofs.Running.{passed_start, passed_held, passed_more, passed_end, more_held, run_less}
use Rattle.parts.proofs.runs.count.Goals as goal

pub loop-r-init : goal.loop-r-init
loop-r-init c = passed_start c.requires

pub rest-r-requires : goal.rest-r-requires
rest-r-requires c = more_held c.loop-r-test.true (passed_held c.loop-r.invariant)

pub overflow_add-n : goal.overflow_add-n
overflow_add-n c =
    let b = run_less (passed_held c.loop-r.invariant) in
    let o = c.loop-r.invariant.on in
    omega arith

pub loop-r-smaller : goal.loop-r-smaller
loop-r-smaller c =
    let e = c.rest-r.ensures in
    omega arith

pub loop-r-preserved : goal.loop-r-preserved
loop-r-preserved c = passed_more c.loop-r.invariant c.loop-r-test.true c.rest-r.ensures

pub returns : goal.returns
returns c = passed_end c.loop-r.invariant c.loop-r-test.false
