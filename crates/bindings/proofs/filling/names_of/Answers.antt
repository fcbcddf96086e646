use mathlib.Core.Path.{sym, ◌∙◌}
use Rattle.bindings.specs.Filling.{row_words}
use Rattle.bindings.proofs.Writing.{names_start, names_some, names_none, names_low, names_end, row_length, row_at}
use native.Mathlib.Omega.{arith}
use Rattle.bindings.proofs.filling.names_of.Goals as goal

pub loop-x-init : goal.loop-x-init
loop-x-init c = names_start (row_words c.args.rows.now c.args.r) (row_length _ _ c.requires)

pub overflow_mul-mask : goal.overflow_mul-mask
overflow_mul-mask c = omega (arith, names_low _ (row_length _ _ c.requires) _ _ _ c.loop-x.invariant)

pub overflow_mul-r : goal.overflow_mul-r
overflow_mul-r c = omega (arith, c.requires.low)

pub overflow_add-r : goal.overflow_add-r
overflow_add-r c = omega (arith, c.requires.low, c.loop-x.invariant.within)

pub offset_bounds-rows-r : goal.offset_bounds-rows-r
offset_bounds-rows-r c = omega (arith, c.requires.low, c.loop-x.invariant.within)

pub bounds-rows-r : goal.bounds-rows-r
bounds-rows-r c = omega (arith, c.requires.low, c.loop-x.invariant.within)

pub overflow_add-mask : goal.overflow_add-mask
overflow_add-mask c = omega (arith, names_low _ (row_length _ _ c.requires) _ _ _ c.loop-x.invariant)

pub overflow_add-width : goal.overflow_add-width
overflow_add-width c = omega (arith, c.loop-x.invariant.narrow)

pub loop-x-preserved-then-rows-r-ne0 : goal.loop-x-preserved-then-rows-r-ne0
loop-x-preserved-then-rows-r-ne0 c =
    names_some (row_words c.args.rows.now c.args.r) (row_length _ _ c.requires) _ _ _ c.loop-x.invariant _ (omega arith) (λ z. c.if-rows-r-ne0.true (sym (row_at _ _ c.requires _ (omega (arith, c.loop-x.invariant.within))) ∙ z))

pub loop-x-preserved : goal.loop-x-preserved
loop-x-preserved c =
    names_none (row_words c.args.rows.now c.args.r) (row_length _ _ c.requires) _ _ _ c.loop-x.invariant _ (omega arith) (row_at _ _ c.requires _ (omega (arith, c.loop-x.invariant.within)) ∙ c.if-rows-r-ne0.false)

pub returns : goal.returns
returns c = names_end _ (row_length _ _ c.requires) _ _ _ c.loop-x.invariant (omega arith)
