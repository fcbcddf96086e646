use Prim.Native.Nat.{◌-◌}
use Rattle.sequence_operators.proofs.Flattening.{Flattening}
use Rattle.sequence_operators.proofs.flatten.Given as goal

abbrev pub invariant-loop-p : goal.invariant-loop-p
invariant-loop-p l = Flattening l.initial.s l.s l.base l.end l.p l.q

abbrev pub decreases-loop-p : goal.decreases-loop-p
decreases-loop-p l = l.end - l.p
