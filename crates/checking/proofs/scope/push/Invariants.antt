use Rattle.checking.proofs.Above.{Pushed}
use Rattle.tables.specs.Accepted.{records}
use Rattle.checking.proofs.scope.push.Given as goal

abbrev pub invariant-loop-i : goal.invariant-loop-i
invariant-loop-i l = Pushed (records l.sheet) l.q l.above l.i
