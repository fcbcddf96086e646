-- `integers::div` meets its contract: by 0 there is no quotient, and else the machine's checked one is there where it is in range.
use mathlib.Core.Path.{sym, ap, ◌∙◌}
use mir.Facts.{to_z-of_z}
use lib.Signed.{quot_z}
use Rattle.integers.specs.Whole.{ranged, div_ℤ}
use Rattle.integers.proofs.Range.{checked_by, divided_zero, divided_other}
use Rattle.integers.proofs.Machine.{both_read, bits_is, bits_not, zero-fits, other_bits, div_quot}
use Rattle.integers.proofs.div.Goals as goal

pub returns-then-right-eq0 : goal.returns-then-right-eq0
returns-then-right-eq0 c = sym (divided_zero _ (bits_is c.ranges.right zero-fits c.if-right-eq0.true))

pub returns : goal.returns
returns c =
    let s = c in
    c.ok_or.ensures.value
    ∙ checked_by _ _ (rw (to_z-of_z s.ranges.right) (other_bits c.if-right-eq0.false)) c.checked_div.ensures
    ∙ ap ranged (both_read quot_z s.ranges.left s.ranges.right ∙ div_quot s.args.left s.args.right)
    ∙ sym (divided_other s.args.right (div_ℤ s.args.left s.args.right) (bits_not c.if-right-eq0.false))
