use Rattle.forming.proofs.Settling.{ToldSoFar}
use Rattle.forming.proofs.settled.tests_of.Given as goal

abbrev pub invariant-loop-i : goal.invariant-loop-i
invariant-loop-i l = ToldSoFar l.initial.i l.tests l.i
