use Prim.Native.Nat.{◌-◌}
use Rattle.bindings.proofs.Large.{Passing}
use Rattle.bindings.proofs.forms.any_large.Given as goal

abbrev pub invariant-loop-at : goal.invariant-loop-at
invariant-loop-at l = Passing l.sheet l.p l.s l.initial.at l.to l.at

abbrev pub decreases-loop-at : goal.decreases-loop-at
decreases-loop-at l = l.to - l.at
