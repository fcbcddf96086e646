use Prim.Native.Nat.{◌+◌, ◌-◌}
use Rattle.set_operators.proofs.Merging.{Merging}
use Rattle.set_operators.proofs.members.merge.Given as goal

abbrev pub invariant-loop-a : goal.invariant-loop-a
invariant-loop-a l = Merging l.initial.s l.s l.x l.y l.at l.a l.a_end l.b l.b_end l.p

abbrev pub decreases-loop-a : goal.decreases-loop-a
decreases-loop-a l = l.a_end + l.b_end - (l.a + l.b)
