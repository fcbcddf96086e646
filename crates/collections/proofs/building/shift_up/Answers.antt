-- `collections::building::shift_up` meets its contract.
use native.Mathlib.Omega.{arith}
use Rattle.collections.proofs.Shifting.{shift_start, shift_step, shift_end}
use Rattle.collections.proofs.building.shift_up.Goals as goal

pub loop-i-init : goal.loop-i-init
loop-i-init c = shift_start _ _ _ _

pub loop-i-preserved : goal.loop-i-preserved
loop-i-preserved c = shift_step _ _ _ _ _ _ (omega arith) (omega arith) c.loop-i-test.true c.loop-i.invariant

pub shape_of-s : goal.shape_of-s
shape_of-s c = c.loop-i.invariant.outside.long

pub returns : goal.returns
returns c = shift_end _ _ _ _ _ _ c.loop-i-test.false c.loop-i.invariant
