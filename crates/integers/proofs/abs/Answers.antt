-- `integers::abs` meets its contract, by its test of the sign.
use mathlib.Core.Path.{ap, ◌∙◌, subst}
use lib.IntN.{neg_ℤ}
use mir.Facts.{to_z-of_z}
use Rattle.integers.specs.Whole.{InRange, ranged}
use Rattle.integers.proofs.Range.{fits_range, answer_is}
use Rattle.integers.proofs.Machine.{below_size, above_size}
use Rattle.integers.proofs.abs.Goals as goal

pub returns-then-z-lt0 : goal.returns-then-z-lt0
returns-then-z-lt0 c =
    let s = c in
    c.neg.ensures
    ∙ ap ranged (ap neg_ℤ (to_z-of_z s.ranges.z) ∙ below_size s.args.z (rw (to_z-of_z s.ranges.z) at c.if-z-lt0.true))

pub returns : goal.returns
returns c =
    let s = c in
    let e = above_size s.args.z (rw (to_z-of_z s.ranges.z) at c.if-z-lt0.false) in
    answer_is (to_z-of_z s.ranges.z ∙ e) (subst InRange e (fits_range s.args.z s.ranges.z))
