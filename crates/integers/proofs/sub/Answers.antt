-- `integers::sub` meets its contract: the machine's checked difference is there where it is in range.
use mathlib.Core.Path.{ap, ◌∙◌}
use lib.IntN.{◌-ℤ◌}
use Rattle.integers.specs.Whole.{ranged}
use Rattle.integers.proofs.Range.{checked_is}
use Rattle.integers.proofs.Machine.{both_read}
use Rattle.integers.proofs.sub.Goals as goal

pub returns : goal.returns
returns c =
    c.ok_or.ensures.value ∙ checked_is _ _ c.checked_sub.ensures ∙ ap ranged (both_read ◌-ℤ◌ c.ranges.left c.ranges.right)
