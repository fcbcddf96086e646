use Prim.Native.Nat.{◌-◌}
use Rattle.operators.specs.Gather.{flatten}
use Rattle.set_operators.proofs.Testing.{SetsLeft}
use Rattle.gathering.proofs.Growth.{Gathering}
use Rattle.set_operators.proofs.members.insert_each.Given as goal

abbrev pub invariant-loop-p : goal.invariant-loop-p
invariant-loop-p l = Gathering flatten l.initial.s l.s l.from l.to l.at l.p × SetsLeft l.initial.s l.from l.to l.p

abbrev pub decreases-loop-p : goal.decreases-loop-p
decreases-loop-p l = l.to - l.p
