use mathlib.Core.Path.{◌≡◌}
use Prim.Native.Nat.{◌+◌, ◌-◌, ◌≤◌}
use Rattle.integers.specs.Bytes.{word}
use Rattle.values.specs.Value.{Items, count}
use Rattle.collections.proofs.Walks.{Walk}
use Rattle.collections.proofs.finding.count_of.Given as goal

abbrev pub invariant-loop-p : goal.invariant-loop-p
invariant-loop-p l = (l.end ≡ l.at + word l.s l.at) × (l.n ≤ l.p) × Walk l.s l.at (λ (vs rest : Items). l.n + count rest ≡ count vs) l.p

abbrev pub decreases-loop-p : goal.decreases-loop-p
decreases-loop-p l = l.end - l.p
