use mathlib.Core.Path.{◌≡◌}
use Prim.Native.Nat.{◌+◌, ◌-◌}
use Rattle.integers.specs.Bytes.{word}
use Rattle.values.specs.Value.{Items}
use Rattle.values.specs.Items.{nth}
use Rattle.collections.proofs.Walks.{Walk}
use Rattle.collections.proofs.finding.item_at.Given as goal

abbrev pub invariant-loop-p : goal.invariant-loop-p
invariant-loop-p l = (l.end ≡ l.at + word l.s l.at) × Walk l.s l.at (λ (vs rest : Items). nth vs l.k ≡ nth rest l.left) l.p

abbrev pub decreases-loop-p : goal.decreases-loop-p
decreases-loop-p l = l.end - l.p
