use mathlib.Core.Path.{◌≡◌}
use Prim.Native.Nat.{◌+◌, ◌-◌}
use Rattle.integers.specs.Bytes.{word}
use Rattle.collections.proofs.Looking.{Looking}
use Rattle.collections.proofs.finding.seek.Given as goal

abbrev pub invariant-loop-p : goal.invariant-loop-p
invariant-loop-p l = (l.end ≡ l.at + word l.s l.at) × Looking l.s l.at l.x l.entries l.p l.key

abbrev pub decreases-loop-p : goal.decreases-loop-p
decreases-loop-p l = l.end - l.p
