use Prim.Native.Nat.{◌-◌}
use Rattle.parts.proofs.Putting.{Writing}
use Rattle.parts.proofs.runs.put.Given as goal

abbrev pub invariant-loop-r : goal.invariant-loop-r
invariant-loop-r l = Writing l.initial.s l.s l.to l.initial.r l.r l.out

abbrev pub decreases-loop-r : goal.decreases-loop-r
decreases-loop-r l = l.r.to - l.r.from
