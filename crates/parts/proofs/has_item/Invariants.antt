use Prim.Native.Nat.{◌-◌}
use Rattle.parts.proofs.Parting.{Unfound}
use Rattle.parts.proofs.has_item.Given as goal

abbrev pub invariant-loop-r : goal.invariant-loop-r
invariant-loop-r l = Unfound l.s l.q l.initial.r l.r

abbrev pub decreases-loop-r : goal.decreases-loop-r
decreases-loop-r l = l.r.to - l.r.from
