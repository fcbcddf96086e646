use Rattle.forming.proofs.Repeating.{NoAnyTo}
use Rattle.forming.proofs.repeats.+holds_any.Given as goal

abbrev pub decreases-holds_any : goal.decreases-holds_any
decreases-holds_any l = l.p

abbrev pub invariant-loop-i : goal.invariant-loop-i
invariant-loop-i l = NoAnyTo l.sheet l.p l.i
