use Prim.Native.Nat.{◌≤◌}
use Rattle.tables.specs.Accepted.{records}
use Rattle.checking.specs.Sweeps.{choice_of}
use Rattle.checking.proofs.Gathering.{Gathers}
use Rattle.checking.proofs.sweep.bind.Given as goal

abbrev pub invariant-loop-i : goal.invariant-loop-i
invariant-loop-i l = (3 ≤ l.i) × Gathers (records l.sheet) l.r l.frees (choice_of l.kind l.names) l.left l.s l.i
