use Prim.Native.Nat.{◌-◌}
use Rattle.gathering.specs.Inserting.{themselves}
use Rattle.gathering.proofs.Growth.{Gathering}
use Rattle.gathering.proofs.insert_all.Given as goal

abbrev pub invariant-loop-p : goal.invariant-loop-p
invariant-loop-p l = Gathering themselves l.initial.s l.s l.from l.to l.at l.p

abbrev pub decreases-loop-p : goal.decreases-loop-p
decreases-loop-p l = l.to - l.p
