-- `integers::compare` meets its contract, by its two tests.
use mathlib.Core.Path.{◌≡◌, sym}
use mathlib.Core.Bool.{Bool}
use lib.IntN.{ℤ}
use lib.Signed.{lt_z}
use mir.Syntax.{w32}
use mir.Val.{SFits, to_z, of_z}
use mir.Facts.{to_z-of_z}
use Rattle.integers.proofs.Ordered.{lt_z_lower, gt_z_higher, eq_z_same}
use Rattle.integers.proofs.compare.Goals as goal

-- the machine's test is that of the integers
by_bits : {a b : ℤ} {t : Bool} → SFits w32 a → SFits w32 b → lt_z (to_z w32 (of_z w32 a)) (to_z w32 (of_z w32 b)) ≡ t → lt_z a b ≡ t
by_bits {a} {b} fa fb e = rw (to_z-of_z fa, to_z-of_z fb) at e

pub returns-then-left-right : goal.returns-then-left-right
returns-then-left-right c = sym (lt_z_lower _ _ (by_bits c.ranges.left c.ranges.right c.if-left-right.true))

pub returns-then-right-left : goal.returns-then-right-left
returns-then-right-left c =
    let f = c.ranges in
    sym (gt_z_higher _ _ (by_bits f.left f.right c.if-left-right.false) (by_bits f.right f.left c.if-right-left.true))

pub returns : goal.returns
returns c =
    let f = c.ranges in
    sym (eq_z_same _ _ (by_bits f.left f.right c.if-left-right.false) (by_bits f.right f.left c.if-right-left.false))
