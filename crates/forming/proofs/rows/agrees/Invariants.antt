use Rattle.forming.proofs.Repeating.{AgreesTo}
use Rattle.forming.proofs.rows.agrees.Given as goal

abbrev pub invariant-loop-x : goal.invariant-loop-x
invariant-loop-x l = AgreesTo l.found l.rows l.r l.x
