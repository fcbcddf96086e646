use Rattle.tables.specs.Accepted.{records}
use Rattle.checking.proofs.Heights.{Going}
use Rattle.checking.proofs.height.highest.Given as goal

abbrev pub invariant-loop-i : goal.invariant-loop-i
invariant-loop-i l = Going (records l.sheet) l.r l.high l.i
