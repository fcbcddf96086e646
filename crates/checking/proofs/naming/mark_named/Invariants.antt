use Rattle.tables.specs.Accepted.{records}
use Rattle.checking.proofs.Marks.{Names}
use Rattle.checking.proofs.naming.mark_named.Given as goal

abbrev pub invariant-loop-i : goal.invariant-loop-i
invariant-loop-i l = Names (records l.sheet) l.r l.marks l.i
