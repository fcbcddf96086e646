-- `how_many` meets its contract: 64 bits hold the exact number.
use mathlib.Core.Path.{◌≡◌, sym, ap, subst, ◌∙◌}
use mathlib.Core.Bool.{true, false}
use lib.Dec.{T}
use lib.IntN.{ℤ, pos, nat_abs, ◌+ℤ◌, ◌-ℤ◌}
use lib.Signed.{lt_z, non_neg}
use mir.Syntax.{w64}
use mir.Val.{Fits}
use Rattle.set_operators.proofs.Ranges.{widened_fits, apart_fits, sum_fits, total-is, total_fits, counted_below, Counted, counted_other}
use Rattle.set_operators.proofs.how_many.Goals as goal

found : (c : goal.Else-n-lt0) → Counted (c.args.to -ℤ c.args.from +ℤ pos 1)
found c = counted_other _ (total_fits c.ranges.from c.ranges.to) (subst (λ (z : ℤ). lt_z z (pos 0) ≡ false) (total-is c.ranges.from c.ranges.to) c.if-n-lt0.false)

pub overflow_cast-n : goal.overflow_cast-n
overflow_cast-n c = widened_fits c.ranges.to

pub overflow_cast-n-2 : goal.overflow_cast-n-2
overflow_cast-n-2 c = widened_fits c.ranges.from

pub overflow_sub-n : goal.overflow_sub-n
overflow_sub-n c = apart_fits c.ranges.from c.ranges.to

pub overflow_add-n : goal.overflow_add-n
overflow_add-n c = sum_fits c.ranges.from c.ranges.to

pub returns-then-n-lt0 : goal.returns-then-n-lt0
returns-then-n-lt0 c =
    counted_below (c.args.to -ℤ c.args.from +ℤ pos 1) (subst (λ (z : ℤ). lt_z z (pos 0) ≡ true) (total-is c.ranges.from c.ranges.to) c.if-n-lt0.true)

pub overflow_cast-result : goal.overflow_cast-result
overflow_cast-result c =
    subst (λ (z : ℤ). T (non_neg z) × Fits w64 (nat_abs z)) (sym (total-is c.ranges.from c.ranges.to)) ((found c).signed, (found c).fits)

pub returns : goal.returns
returns c = ap nat_abs (total-is c.ranges.from c.ranges.to) ∙ (found c).exact
