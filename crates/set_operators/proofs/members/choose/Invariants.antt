use mathlib.Core.Path.{◌≡◌}
use Prim.Native.Nat.{◌+◌, ◌-◌}
use Rattle.integers.specs.Bytes.{word}
use Rattle.set_operators.proofs.Choosing.{Choosing}
use Rattle.set_operators.proofs.members.choose.Given as goal

abbrev pub invariant-loop-p : goal.invariant-loop-p
invariant-loop-p l = (l.end ≡ l.x + word l.initial.s l.x) × Choosing l.initial.s l.s l.x l.a l.b l.at l.wanted l.p

abbrev pub decreases-loop-p : goal.decreases-loop-p
decreases-loop-p l = l.end - l.p
