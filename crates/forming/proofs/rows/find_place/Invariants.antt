use Rattle.forming.proofs.Rowing.{Between}
use Prim.Native.Nat.{◌-◌}
use Rattle.forming.proofs.rows.find_place.Given as goal

abbrev pub invariant-loop-low : goal.invariant-loop-low
invariant-loop-low l = Between l.s l.found l.rows l.order l.n l.low l.high

abbrev pub decreases-loop-low : goal.decreases-loop-low
decreases-loop-low l = l.high - l.low
