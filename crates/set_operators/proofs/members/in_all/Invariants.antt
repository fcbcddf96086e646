use Prim.Native.Nat.{◌-◌}
use Rattle.set_operators.proofs.Testing.{SetsLeft, in_each}
use Rattle.gathering.proofs.Testing.{Testing}
use Rattle.set_operators.proofs.members.in_all.Given as goal

abbrev pub invariant-loop-p : goal.invariant-loop-p
invariant-loop-p l = Testing l.s l.from l.to (in_each l.s l.x) l.p × SetsLeft l.s l.from l.to l.p

abbrev pub decreases-loop-p : goal.decreases-loop-p
decreases-loop-p l = l.to - l.p
