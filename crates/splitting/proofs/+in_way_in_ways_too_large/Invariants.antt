use Prim.Native.Nat.{◌*◌, ◌+◌}
use Rattle.splitting.proofs.Telling.{PartsLeft, WaysLeft}
use Rattle.splitting.proofs.+in_way_in_ways_too_large.Given as goal

abbrev pub decreases-in_way : goal.decreases-in_way
decreases-in_way l = 3 * l.p

abbrev pub decreases-in_ways : goal.decreases-in_ways
decreases-in_ways l = 3 * l.p + 1

abbrev pub decreases-too_large : goal.decreases-too_large
decreases-too_large l = 3 * l.p + 2

abbrev pub invariant-in_way-loop-i : goal.invariant-in_way-loop-i
invariant-in_way-loop-i l = PartsLeft l.sheet l.p l.s l.part l.d l.i

abbrev pub invariant-in_ways-loop-d : goal.invariant-in_ways-loop-d
invariant-in_ways-loop-d l = WaysLeft l.sheet l.p l.s l.part l.d
