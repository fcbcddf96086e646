use Prim.Native.Nat.{◌-◌}
use Rattle.parts.proofs.Running.{Seeking}
use Rattle.parts.proofs.runs.ready.Given as goal

abbrev pub invariant-loop-from : goal.invariant-loop-from
invariant-loop-from l = Seeking l.s l.initial.from l.to l.initial.mask l.from l.mask

abbrev pub decreases-loop-from : goal.decreases-loop-from
decreases-loop-from l = l.to - l.from
