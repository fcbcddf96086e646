use Rattle.forming.proofs.Settling.{SettledTo}
use Rattle.forming.proofs.settled.+is_settled.Given as goal

abbrev pub decreases-is_settled : goal.decreases-is_settled
decreases-is_settled l = l.p

abbrev pub invariant-loop-i : goal.invariant-loop-i
invariant-loop-i l = SettledTo l.sheet l.p l.found l.i
