use Rattle.tables.specs.Accepted.{records}
use Rattle.checking.proofs.Heights.{LowTo}
use Rattle.checking.proofs.height.is_flat.Given as goal

abbrev pub invariant-loop-i : goal.invariant-loop-i
invariant-loop-i l = LowTo (records l.sheet) l.r 1 l.i
