use Prim.Native.Nat.{◌-◌}
use Rattle.set_operators.proofs.Testing.{in_set}
use Rattle.gathering.proofs.Testing.{Testing}
use Rattle.set_operators.proofs.all_in.Given as goal

abbrev pub invariant-loop-p : goal.invariant-loop-p
invariant-loop-p l = Testing l.s l.from l.to (in_set l.s l.at) l.p

abbrev pub decreases-loop-p : goal.decreases-loop-p
decreases-loop-p l = l.to - l.p
