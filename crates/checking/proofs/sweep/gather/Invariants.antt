use Rattle.tables.specs.Accepted.{records}
use Rattle.checking.proofs.Gathering.{Gathers}
use Rattle.checking.proofs.sweep.gather.Given as goal

abbrev pub invariant-loop-i : goal.invariant-loop-i
invariant-loop-i l = Gathers (records l.sheet) l.r l.frees 0 l.left l.s l.i
