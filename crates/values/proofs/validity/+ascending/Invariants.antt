use Prim.Native.Nat.{◌-◌}
use Rattle.values.proofs.validity.+ascending.Given as goal

abbrev pub decreases-ascending : goal.decreases-ascending
decreases-ascending l = l.to - l.from
