use mathlib.Core.Path.{◌≡◌}
use mathlib.Core.Bool.{true, false}
use Prim.Native.Nat.{◌+◌, ◌-◌}
use Rattle.integers.specs.Bytes.{word}
use Rattle.collections.proofs.Looking.{Looking}
use Rattle.collections.proofs.finding.pass_lower.Given as goal

abbrev pub invariant-loop-p : goal.invariant-loop-p
invariant-loop-p l = (l.end ≡ l.at + word l.s l.at) × Looking l.s l.at l.x false l.p true

abbrev pub decreases-loop-p : goal.decreases-loop-p
decreases-loop-p l = l.end - l.p
