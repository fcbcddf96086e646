use Prim.Native.Nat.{ℕ, ◌≤◌, ◌<◌}
use Rattle.tables.specs.Sheet.{height}
use Rattle.tables.specs.Check.{most_height}
use Rattle.tables.specs.Accepted.{records}
use Rattle.checking.specs.Scopes.{Filled}
use Rattle.checking.proofs.height.lowest_tall.Given as goal

abbrev pub invariant-loop-r : goal.invariant-loop-r
invariant-loop-r l = (l.r ≤ l.count) × Filled (height (records l.sheet)) l.heights l.r × ((q : ℕ) → q < l.r → height (records l.sheet) q ≤ most_height)
