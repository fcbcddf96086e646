use Prim.Native.Nat.{◌-◌}
use Rattle.map_operators.proofs.Agreeing.{Agreeing}
use Rattle.map_operators.proofs.compatible.Given as goal

abbrev pub invariant-loop-p : goal.invariant-loop-p
invariant-loop-p l = Agreeing l.s l.base l.end l.p

abbrev pub decreases-loop-p : goal.decreases-loop-p
decreases-loop-p l = l.end - l.p
