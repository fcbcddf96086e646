use Prim.Native.Nat.{◌-◌}
use Rattle.forming.specs.Sizes.{SplitFrom}
use Rattle.forming.proofs.sizes.split_from.Given as goal

abbrev pub invariant-loop-e : goal.invariant-loop-e
invariant-loop-e l = SplitFrom l.w l.d l.r l.e

abbrev pub decreases-loop-e : goal.decreases-loop-e
decreases-loop-e l = l.w - l.e
