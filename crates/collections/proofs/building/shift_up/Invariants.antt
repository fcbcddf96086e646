use Prim.Native.Nat.{◌+◌}
use Rattle.collections.proofs.Shifting.{Shifting}
use Rattle.collections.proofs.building.shift_up.Given as goal

abbrev pub invariant-loop-i : goal.invariant-loop-i
invariant-loop-i l = Shifting l.initial.s l.s l.at (l.at + l.by) l.n l.i
