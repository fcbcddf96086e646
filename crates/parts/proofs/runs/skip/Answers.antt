-- `skip`: i items are passed, of which there are enough.
use native.Mathlib.Omega.{arith}
use Rattle.parts.proofs.Running.{passing_start, passing_less, passing_more, passed_held, passed_skipped, more_held}
use Rattle.parts.proofs.runs.skip.Goals as goal

pub loop-i-init : goal.loop-i-init
loop-i-init c = passing_start c.requires

pub rest-r-requires : goal.rest-r-requires
rest-r-requires c =
    more_held (passing_less c.loop-i.invariant c.loop-i-test.true) (passed_held c.loop-i.invariant.passed)

pub loop-i-preserved : goal.loop-i-preserved
loop-i-preserved c = passing_more c.loop-i.invariant c.loop-i-test.true c.rest-r.ensures

pub returns : goal.returns
returns c = let f = c.loop-i.invariant.few in passed_skipped c.loop-i.invariant.passed _ (omega arith)
