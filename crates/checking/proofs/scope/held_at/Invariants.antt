use Rattle.checking.proofs.Below.{Turn}
use Rattle.tables.specs.Accepted.{records}
use Rattle.checking.proofs.scope.held_at.Given as goal

abbrev pub invariant-loop-i : goal.invariant-loop-i
invariant-loop-i l = Turn (records l.sheet) l.r l.m l.i
