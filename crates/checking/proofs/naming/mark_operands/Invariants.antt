use Rattle.checking.proofs.Marks.{Operands}
use Rattle.tables.specs.Accepted.{records}
use Rattle.checking.proofs.naming.mark_operands.Given as goal

abbrev pub invariant-loop-i : goal.invariant-loop-i
invariant-loop-i l = Operands (records l.sheet) l.r l.marks l.bad l.i
