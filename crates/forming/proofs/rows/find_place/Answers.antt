use Rattle.forming.proofs.Rowing.{between_start, between_lower, between_higher, between_found, between_end, row_held}
use native.Mathlib.Omega.{arith}
use Prim.Native.Nat.{◌+◌, ◌-◌, ◌/◌}
use mathlib.Core.Path.{refl}
use Rattle.forming.proofs.rows.find_place.Goals as goal

pub loop-low-init : goal.loop-low-init
loop-low-init c = between_start _ _ _ _ _

pub overflow_sub-middle : goal.overflow_sub-middle
overflow_sub-middle c = omega arith

pub overflow_add-middle : goal.overflow_add-middle
overflow_add-middle c = omega (arith, c.loop-low.invariant.within, c.requires.1.1.few)

pub bounds-order-middle : goal.bounds-order-middle
bounds-order-middle c = omega (arith, c.loop-low.invariant.within, c.requires.1.1.few)

pub overflow_cast-r : goal.overflow_cast-r
overflow_cast-r c =
    omega (arith, c.requires.1.1.row (c.loop-low.low + (c.loop-low.high - c.loop-low.low) / 2) (omega (arith, c.loop-low.invariant.within)), c.requires.1.1.few)

pub order_row-requires : goal.order_row-requires
order_row-requires c = (c.requires.0, row_held _ _ _ _ c.requires.1 _ _ (omega (arith, c.loop-low.invariant.within)) refl)

pub loop-low-smaller-in-Less : goal.loop-low-smaller-in-Less
loop-low-smaller-in-Less c = omega arith

pub loop-low-preserved-in-Less : goal.loop-low-preserved-in-Less
loop-low-preserved-in-Less c =
    between_lower _ _ _ _ _ _ _ c.loop-low.invariant _ _ (omega arith) (omega arith) refl _ c.order_row.ensures c.in-Less.is

pub overflow_add-low : goal.overflow_add-low
overflow_add-low c = omega (arith, c.loop-low.invariant.within, c.requires.1.1.few)

pub loop-low-smaller : goal.loop-low-smaller
loop-low-smaller c = omega arith

pub loop-low-preserved : goal.loop-low-preserved
loop-low-preserved c =
    between_higher _ _ _ _ _ _ _ c.loop-low.invariant _ _ (omega arith) (omega arith) refl _ c.order_row.ensures c.in-Greater.is

pub returns-in-Equal : goal.returns-in-Equal
returns-in-Equal c =
    between_found _ _ _ _ _ _ _ c.loop-low.invariant _ _ (omega arith) (omega arith) refl _ c.order_row.ensures c.in-Equal.is

pub returns : goal.returns
returns c = between_end _ _ _ _ _ _ _ c.loop-low.invariant (omega arith)
