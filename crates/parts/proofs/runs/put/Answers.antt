-- `put`: the items that are done stand at the place, and the run with the others lies below it.
use native.Mathlib.Omega.{arith}
use Rattle.parts.proofs.Putting.{writing_start, writing_copyable, writing_held, writing_more, writing_end}
use Rattle.parts.proofs.runs.put.Goals as goal

pub loop-r-init : goal.loop-r-init
loop-r-init c = writing_start c.requires

pub copy_value-out-requires : goal.copy_value-out-requires
copy_value-out-requires c = writing_copyable c.loop-r.invariant c.loop-r-test.true

pub rest-r-requires : goal.rest-r-requires
rest-r-requires c = writing_held c.loop-r.invariant c.loop-r-test.true c.copy_value-out.ensures

pub loop-r-smaller : goal.loop-r-smaller
loop-r-smaller c =
    let e = c.rest-r.ensures in
    omega arith

pub loop-r-preserved : goal.loop-r-preserved
loop-r-preserved c = writing_more c.loop-r.invariant c.loop-r-test.true c.copy_value-out.ensures c.rest-r.ensures

pub shape_of-s : goal.shape_of-s
shape_of-s c = c.loop-r.invariant.outside.long

pub returns : goal.returns
returns c = writing_end c.loop-r.invariant c.loop-r-test.false
