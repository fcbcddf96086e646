-- `integers::neg` meets its contract: the machine's checked negation is there where it is in range.
use mathlib.Core.Path.{ap, ◌∙◌}
use mir.Facts.{to_z-of_z}
use Rattle.integers.specs.Whole.{negation_of}
use Rattle.integers.proofs.Range.{checked_is}
use Rattle.integers.proofs.neg.Goals as goal

pub returns : goal.returns
returns c = c.ok_or.ensures.value ∙ checked_is _ _ c.checked_neg.ensures ∙ ap negation_of (to_z-of_z c.ranges.z)
