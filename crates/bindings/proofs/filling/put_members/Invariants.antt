use Rattle.bindings.proofs.Writing.{MembersSoFar}
use Prim.Native.Nat.{◌-◌}
use Rattle.bindings.proofs.filling.put_members.Given as goal

abbrev pub invariant-loop-at : goal.invariant-loop-at
invariant-loop-at l = MembersSoFar l.initial.s l.s l.to l.from l.end l.at l.n

abbrev pub decreases-loop-at : goal.decreases-loop-at
decreases-loop-at l = l.end - l.at
