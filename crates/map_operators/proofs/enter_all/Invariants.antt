use Prim.Native.Nat.{◌-◌}
use Rattle.map_operators.proofs.Overriding.{Overriding}
use Rattle.map_operators.proofs.enter_all.Given as goal

abbrev pub invariant-loop-p : goal.invariant-loop-p
invariant-loop-p l = Overriding l.initial.s l.s l.base l.end l.p

abbrev pub decreases-loop-p : goal.decreases-loop-p
decreases-loop-p l = l.end - l.p
