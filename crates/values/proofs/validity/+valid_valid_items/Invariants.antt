use Prim.Native.Nat.{◌+◌, ◌*◌, ◌-◌}
use Rattle.values.proofs.validity.+valid_valid_items.Given as goal

abbrev pub decreases-valid : goal.decreases-valid
decreases-valid l = 2 * (l.to - l.at)

abbrev pub decreases-valid_items : goal.decreases-valid_items
decreases-valid_items l = 2 * (l.to - l.at) + 1
