use Rattle.checking.proofs.Marks.{Records}
use Rattle.tables.specs.Accepted.{records}
use Rattle.checking.proofs.naming.mark_all.Given as goal

abbrev pub invariant-loop-r : goal.invariant-loop-r
invariant-loop-r l = Records (records l.sheet) l.marks l.low l.r
