use Rattle.bindings.proofs.Writing.{fill_start, fill_full, fill_end, put_asked, fill_more}
use native.Mathlib.Omega.{arith}
use Rattle.bindings.proofs.filling.fill.Goals as goal

pub overflow_mul-step : goal.overflow_mul-step
overflow_mul-step c = omega (arith, c.requires.narrow)

pub overflow_add-end : goal.overflow_add-end
overflow_add-end c = omega (arith, c.requires.room, c.requires.short)

pub loop-j-init : goal.loop-j-init
loop-j-init c = fill_start _ _ _ _ _ c.requires

pub overflow_add-out : goal.overflow_add-out
overflow_add-out c = omega (arith, c.loop-j.invariant.inside, c.requires.room, c.requires.short, c.requires.narrow)

pub shape_of-s-then-end-out : goal.shape_of-s-then-end-out
shape_of-s-then-end-out c = c.loop-j.invariant.outside.long

pub returns-then-end-out : goal.returns-then-end-out
returns-then-end-out c = fill_full _ _ _ _ _ c.requires _ _ _ c.loop-j.invariant (omega arith)

pub bounds-order-j : goal.bounds-order-j
bounds-order-j c = omega (arith, c.requires.few)

pub overflow_cast-r : goal.overflow_cast-r
overflow_cast-r c = omega (arith, c.requires.row c.loop-j.j (omega arith))

pub put_row-requires : goal.put_row-requires
put_row-requires c = put_asked _ _ _ _ _ c.requires _ _ _ c.loop-j.invariant (omega arith) (omega arith)

pub overflow_add-out-in-loop-j : goal.overflow_add-out-in-loop-j
overflow_add-out-in-loop-j c = omega (arith, c.loop-j.invariant.inside, c.requires.room, c.requires.short, c.requires.narrow)

pub loop-j-preserved : goal.loop-j-preserved
loop-j-preserved c =
    fill_more _ _ _ _ _ c.requires _ _ _ c.loop-j.invariant (omega arith) (omega arith) _ c.put_row.ensures

pub shape_of-s : goal.shape_of-s
shape_of-s c = c.loop-j.invariant.outside.long

pub returns : goal.returns
returns c = fill_end _ _ _ _ _ c.requires _ _ _ c.loop-j.invariant (omega arith)
