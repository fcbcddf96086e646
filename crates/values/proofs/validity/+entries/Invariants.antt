use Prim.Native.Nat.{◌-◌}
use Rattle.values.proofs.validity.+entries.Given as goal

abbrev pub decreases-entries : goal.decreases-entries
decreases-entries l = l.to - l.from
