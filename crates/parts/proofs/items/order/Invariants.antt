use Prim.Native.Nat.{◌+◌}
use Rattle.parts.proofs.Ordering.{ChoicesLeft}
use Rattle.parts.proofs.items.order.Given as goal

abbrev pub invariant-loop-m : goal.invariant-loop-m
invariant-loop-m l = ChoicesLeft l.s l.initial.i l.initial.m l.initial.j l.initial.n l.i l.m l.j l.n

abbrev pub decreases-loop-m : goal.decreases-loop-m
decreases-loop-m l = l.m + l.n
