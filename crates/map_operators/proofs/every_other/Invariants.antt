use Prim.Native.Nat.{◌-◌}
use Rattle.values.specs.Value.{map}
use Rattle.gathering.proofs.Packing.{Packing}
use Rattle.map_operators.proofs.Halving.{Half}
use Rattle.map_operators.proofs.every_other.Given as goal

abbrev pub invariant-loop-p : goal.invariant-loop-p
invariant-loop-p l = Packing map (Half l.keys l.wanted) l.initial.s l.s l.base l.end l.p l.q

abbrev pub decreases-loop-p : goal.decreases-loop-p
decreases-loop-p l = l.end - l.p
