use Rattle.checking.specs.Scopes.{Below}
use Rattle.tables.specs.Accepted.{records}
use Prim.Native.Nat.{◌≤◌}
use Rattle.checking.proofs.scope.fill_below.Given as goal

abbrev pub invariant-loop-r : goal.invariant-loop-r
invariant-loop-r l = (l.r ≤ l.count) × Below (records l.sheet) l.below l.r
