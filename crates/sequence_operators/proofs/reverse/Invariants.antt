use Prim.Native.Nat.{◌+◌, ◌-◌}
use Rattle.calling.specs.Scratch.{second}
use Rattle.sequence_operators.proofs.Turning.{Turning}
use Rattle.sequence_operators.proofs.reverse.Given as goal

abbrev pub invariant-loop-p : goal.invariant-loop-p
invariant-loop-p l = Turning l.initial.s l.s l.base l.n l.p l.q

abbrev pub decreases-loop-p : goal.decreases-loop-p
decreases-loop-p l = l.base + second + l.n - l.p
