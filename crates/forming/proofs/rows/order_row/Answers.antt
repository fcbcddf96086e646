use Rattle.forming.proofs.Rowing.{row_start, row_words, row_apart, row_more, row_end}
use Rattle.parts.proofs.Masking.{words_same}
use native.Mathlib.Omega.{arith}
use mathlib.Core.Path.{refl}
use Rattle.forming.proofs.rows.order_row.Goals as goal
use Rattle.forming.proofs.rows.order_row.Goals.{then-a-b+in-Equal, else-a-b}

pub loop-x-init : goal.loop-x-init
loop-x-init c = row_start _ _ _ _

pub overflow_mul-b : goal.overflow_mul-b
overflow_mul-b c = omega (arith, c.requires.1.low)

pub overflow_add-b : goal.overflow_add-b
overflow_add-b c = omega (arith, c.requires.1.low)

pub offset_bounds-rows-r : goal.offset_bounds-rows-r
offset_bounds-rows-r c = omega (arith, c.requires.1.low)

pub bounds-rows-r : goal.bounds-rows-r
bounds-rows-r c = omega (arith, c.requires.1.low)

pub order_names-o-requires : goal.order_names-o-requires
order_names-o-requires c = row_words _ _ _ _ _ c.loop-x.invariant c.requires.0 c.requires.1 (omega arith)

pub returns : goal.returns
returns c = row_end _ _ _ _ _ c.loop-x.invariant (omega arith)

pub returns-in_default : goal.returns-in_default
returns-in_default c = row_apart _ _ _ _ _ c.loop-x.invariant (omega arith) _ c.order_names-o.ensures c.in_default.not-Equal

pub loop-x-preserved : goal.loop-x-preserved
loop-x-preserved c =
    elim c.if-a-b.branch [
      | then-a-b+in-Equal w ↦ row_more _ _ _ _ _ c.loop-x.invariant (omega arith) _ w.order_names-o.ensures w.in-Equal.is
      | else-a-b w ↦ row_more _ _ _ _ _ c.loop-x.invariant (omega arith) _ (words_same _ _ _ w.if-a-b.false) refl
    ]
