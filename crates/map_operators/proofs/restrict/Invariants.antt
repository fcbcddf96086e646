use Prim.Native.Nat.{◌-◌}
use Rattle.map_operators.proofs.Restricting.{Restricting}
use Rattle.map_operators.proofs.restrict.Given as goal

abbrev pub invariant-loop-p : goal.invariant-loop-p
invariant-loop-p l = Restricting l.keys l.initial.s l.s l.at l.of l.end l.p l.q

abbrev pub decreases-loop-p : goal.decreases-loop-p
decreases-loop-p l = l.end - l.p
