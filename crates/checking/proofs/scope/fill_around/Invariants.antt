use Rattle.checking.specs.Scopes.{Around}
use Rattle.tables.specs.Accepted.{records}
use Prim.Native.Nat.{◌≤◌}
use Rattle.checking.proofs.scope.fill_around.Given as goal

abbrev pub invariant-loop-q : goal.invariant-loop-q
invariant-loop-q l = (l.q ≤ l.count) × Around (records l.sheet) l.above l.q
