-- `integers::rem` meets its contract: by 0 there is no rest, and else the machine's is in range.
use mathlib.Core.Path.{sym, ◌∙◌, subst}
use lib.Signed.{rem_z}
use Rattle.integers.specs.Whole.{InRange, rem_ℤ}
use Rattle.integers.proofs.Range.{fits_range, divided_zero, divided_other, answer_is}
use Rattle.integers.proofs.Division.{rem_sizes}
use Rattle.integers.proofs.Machine.{is_read, both_read, bits_is, bits_not, zero-fits}
use Rattle.integers.proofs.Ends.{remainder_range}
use Rattle.integers.proofs.rem.Goals as goal

pub returns-then-right-eq0 : goal.returns-then-right-eq0
returns-then-right-eq0 c = sym (divided_zero _ (bits_is c.ranges.right zero-fits c.if-right-eq0.true))

pub returns : goal.returns
returns c =
    let s = c in
    let e = sym (rem_sizes s.args.left s.args.right) in
    let inside = remainder_range s.args.left s.args.right (fits_range s.args.left s.ranges.left) in
    answer_is (is_read (c.wrapping_rem.ensures ∙ both_read rem_z s.ranges.left s.ranges.right) inside ∙ e) (subst InRange e inside)
    ∙ sym (divided_other s.args.right (rem_ℤ s.args.left s.args.right) (bits_not c.if-right-eq0.false))
