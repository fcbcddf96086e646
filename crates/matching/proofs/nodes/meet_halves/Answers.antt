use native.Mathlib.Omega.{arith}
use Rattle.matching.proofs.Counting.{full_splits}
use Rattle.matching.proofs.nodes.meet_halves.Goals as goal

pub returns-then-units-gt-MOST_UNITS : goal.returns-then-units-gt-MOST_UNITS
returns-then-units-gt-MOST_UNITS c = c.if-units-gt-MOST_UNITS.true

pub returns-then-units-lt2 : goal.returns-then-units-lt2
returns-then-units-lt2 c = c.if-units-lt2.true

pub overflow_sub-result : goal.overflow_sub-result
overflow_sub-result c = omega (arith, full_splits _ _ (omega arith) c.full.ensures)

pub returns : goal.returns
returns c =
    (omega arith, omega arith, omega (arith, c.full.ensures.power, full_splits _ _ (omega arith) c.full.ensures))
