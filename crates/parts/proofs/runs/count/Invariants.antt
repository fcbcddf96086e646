use Prim.Native.Nat.{◌-◌}
use Rattle.parts.proofs.Running.{Passed}
use Rattle.parts.proofs.runs.count.Given as goal

abbrev pub invariant-loop-r : goal.invariant-loop-r
invariant-loop-r l = Passed l.s l.initial.r l.r l.n

abbrev pub decreases-loop-r : goal.decreases-loop-r
decreases-loop-r l = l.r.to - l.r.from
