use mathlib.Core.Path.{sym, refl}
use Rattle.bindings.proofs.Writing.{row_start, row_end, row_in, row_room, row_some, row-none, row_length, row_at}
use native.Mathlib.Omega.{arith}
use Rattle.bindings.proofs.filling.put_row.Goals as goal
use Rattle.bindings.proofs.filling.put_row.Goals.{then-left-eq1, else-left-eq1}

pub loop-left-init : goal.loop-left-init
loop-left-init c = row_start _ _ _ _ (row_length _ _ c.requires.held) c.requires.is_mask

pub overflow_mul-w : goal.overflow_mul-w
overflow_mul-w c = omega (arith, c.requires.held.low)

pub overflow_add-w : goal.overflow_add-w
overflow_add-w c =
    omega (arith, c.requires.held.low, row_in _ _ _ _ (row_length _ _ c.requires.held) c.requires.is_mask _ _ _ _ c.loop-left.invariant (omega arith))

pub offset_bounds-rows-r : goal.offset_bounds-rows-r
offset_bounds-rows-r c =
    omega (arith, c.requires.held.low, row_in _ _ _ _ (row_length _ _ c.requires.held) c.requires.is_mask _ _ _ _ c.loop-left.invariant (omega arith))

pub bounds-rows-r : goal.bounds-rows-r
bounds-rows-r c =
    omega (arith, c.requires.held.low, row_in _ _ _ _ (row_length _ _ c.requires.held) c.requires.is_mask _ _ _ _ c.loop-left.invariant (omega arith))

pub put_word-requires : goal.put_word-requires
put_word-requires c =
    omega (arith, row_room _ _ _ _ (row_length _ _ c.requires.held) c.requires.is_mask _ _ _ _ c.loop-left.invariant (omega arith) c.if-left-eq1.true, c.requires.room, c.loop-left.invariant.outside.long)

pub overflow_add-at : goal.overflow_add-at
overflow_add-at c =
    omega (arith, row_room _ _ _ _ (row_length _ _ c.requires.held) c.requires.is_mask _ _ _ _ c.loop-left.invariant (omega arith) c.if-left-eq1.true, c.requires.room)

pub overflow_add-x : goal.overflow_add-x
overflow_add-x c = omega (arith, c.loop-left.invariant.within)

pub loop-left-smaller : goal.loop-left-smaller
loop-left-smaller c = omega arith

pub loop-left-preserved : goal.loop-left-preserved
loop-left-preserved c =
    elim c.if-left-eq1.branch [
      | then-left-eq1 w ↦ rw (w.s-is, w.at-is) (row_some _ _ _ _ (row_length _ _ c.requires.held) c.requires.is_mask _ _ _ _ c.loop-left.invariant (omega arith) w.if-left-eq1.true _ _ (sym (row_at _ _ c.requires.held _ (row_in _ _ _ _ (row_length _ _ c.requires.held) c.requires.is_mask _ _ _ _ c.loop-left.invariant (omega arith)))) (omega (arith, row_room _ _ _ _ (row_length _ _ c.requires.held) c.requires.is_mask _ _ _ _ c.loop-left.invariant (omega arith) w.if-left-eq1.true, c.requires.room, c.loop-left.invariant.outside.long)) w.put_word.ensures)
      | else-left-eq1 w ↦ rw (w.s-is, w.at-is) (row-none _ _ _ _ (row_length _ _ c.requires.held) c.requires.is_mask _ _ _ _ c.loop-left.invariant (omega arith) w.if-left-eq1.false)
    ]

pub shape_of-s : goal.shape_of-s
shape_of-s c = c.loop-left.invariant.outside.long

pub returns : goal.returns
returns c =
    let w = row_end _ _ _ _ (row_length _ _ c.requires.held) c.requires.is_mask _ _ _ _ c.loop-left.invariant (omega arith) _ refl in record { words = w.0; outside = w.1 }
