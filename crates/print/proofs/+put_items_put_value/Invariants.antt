use Prim.Native.Nat.{◌+◌, ◌-◌}
use Rattle.integers.specs.Bytes.{word}
use Rattle.print.proofs.+put_items_put_value.Given as goal

abbrev pub decreases-put_items : goal.decreases-put_items
decreases-put_items l = l.to - l.from + 1

abbrev pub decreases-put_value : goal.decreases-put_value
decreases-put_value l = word l.s.now l.from
