use Prim.Native.Nat.{◌≤◌}
use Rattle.forming.proofs.rows.some_agrees.Given as goal

abbrev pub invariant-loop-r : goal.invariant-loop-r
invariant-loop-r l = l.from ≤ l.r
