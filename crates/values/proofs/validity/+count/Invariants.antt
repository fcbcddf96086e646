use Prim.Native.Nat.{◌-◌}
use Rattle.values.proofs.validity.+count.Given as goal

abbrev pub decreases-count : goal.decreases-count
decreases-count l = l.to - l.from
