use Rattle.forming.proofs.Leaving.{TakeSoFar}
use Rattle.forming.proofs.taking.take_leaves.Given as goal

abbrev pub invariant-loop-head : goal.invariant-loop-head
invariant-loop-head l = TakeSoFar l.sheet l.s l.agenda l.head-2 l.initial.found l.head l.wait l.found

abbrev pub decreases-loop-head : goal.decreases-loop-head
decreases-loop-head l = l.head
