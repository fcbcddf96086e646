use Prim.Native.Nat.{◌-◌}
use Rattle.gathering.specs.Kinds.{of_kind}
use Rattle.gathering.proofs.Testing.{Testing}
use Rattle.gathering.proofs.all_of_kind.Given as goal

abbrev pub invariant-loop-p : goal.invariant-loop-p
invariant-loop-p l = Testing {I = Unit} l.s l.from l.to (λ i. of_kind l.kind) l.p

abbrev pub decreases-loop-p : goal.decreases-loop-p
decreases-loop-p l = l.to - l.p
