use Prim.Native.Nat.{◌+◌, ◌-◌}
use Rattle.integers.specs.Bytes.{word}
use Rattle.values.proofs.+compare_compare_items.Given as goal

abbrev pub decreases-compare : goal.decreases-compare
decreases-compare l = word l.s.now l.a

abbrev pub decreases-compare_items : goal.decreases-compare_items
decreases-compare_items l = l.a_end - l.a + 1
