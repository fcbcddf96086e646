-- `range` meets its contract: the integers from one to the other are counted and written.
use mathlib.Core.Path.{refl}
use native.Mathlib.Omega.{arith}
use Rattle.operators.specs.Sets.{how_many, consecutive}
use Rattle.calling.proofs.Answering.{passed_up}
use Rattle.calling.proofs.Pairs.{pair_off}
use Rattle.set_operators.proofs.Ranges.{range_count, range_gives}
use Rattle.set_operators.proofs.range.Goals as goal

pub counting-requires : goal.counting-requires
counting-requires c = range_count c.two_integers.ensures c.in_ok-a.was c.how_many.ensures (omega arith)

pub returns : goal.returns
returns c = range_gives c.two_integers.ensures c.in_ok-a.was c.how_many.ensures c.counting.ensures

pub returns-in_err-a : goal.returns-in_err-a
returns-in_err-a c =
    rw (passed_up c.from_residual.result c.from_residual.ensures.1)
    (pair_off c.two_integers.ensures (λ a b. consecutive a (how_many a b)) (λ v w. refl) c.in_err-a.was)
