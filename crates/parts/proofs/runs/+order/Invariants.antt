use Prim.Native.Nat.{◌-◌}
use Rattle.parts.proofs.runs.+order.Given as goal

abbrev pub decreases-order : goal.decreases-order
decreases-order l = l.b.to - l.b.from
