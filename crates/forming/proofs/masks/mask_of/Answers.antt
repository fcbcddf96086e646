use Rattle.forming.proofs.Framing.{byte_has, byte_low, mask_start, mask_more, mask_end}
use mathlib.Core.Bool.{not}
use Prim.Native.Nat.{◌-◌}
use lib.Dec.{eqb}
use lib.ListN.{get_or}
use native.Mathlib.Omega.{arith}
use Rattle.forming.proofs.masks.mask_of.Goals as goal

pub loop-x-init : goal.loop-x-init
loop-x-init c = mask_start _ c.requires

pub overflow_mul-mask : goal.overflow_mul-mask
overflow_mul-mask c = omega (arith, c.loop-x.invariant.low)

pub offset_bounds-found-x : goal.offset_bounds-found-x
offset_bounds-found-x c = omega (arith, c.loop-x.invariant.within)

pub bounds-found-x : goal.bounds-found-x
bounds-found-x c = omega (arith, c.loop-x.invariant.within, c.requires)

pub overflow_add-mask : goal.overflow_add-mask
overflow_add-mask c = omega (arith, c.loop-x.invariant.low, c.from.ensures, byte_low (not (eqb (get_or c.args.found.now (c.loop-x.x - 1) 0) 0)))

pub loop-x-preserved : goal.loop-x-preserved
loop-x-preserved c =
    rw (c.from.ensures, byte_has (get_or c.args.found.now (c.loop-x.x - 1) 0)) (mask_more _ c.requires _ _ _ (omega arith) c.loop-x.invariant)

pub returns : goal.returns
returns c = mask_end _ c.requires _ _ (omega arith) c.loop-x.invariant
