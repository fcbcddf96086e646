use Rattle.tables.specs.Accepted.{records}
use Rattle.checking.proofs.Adding.{Runs}
use Rattle.checking.proofs.sweep.add_records.Given as goal

abbrev pub invariant-loop-r : goal.invariant-loop-r
invariant-loop-r l = Runs (records l.sheet) l.left l.below l.frees l.r
