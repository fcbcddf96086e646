-- `copy_apart` meets its contract. After i turns the first i bytes are copied.
use native.Mathlib.Omega.{arith}
use Rattle.values.proofs.Copying.{copying_none, copying_length, copying_more, copying_all}
use Rattle.values.proofs.copy_apart.Goals as goal

pub loop-i-init : goal.loop-i-init
loop-i-init c = copying_none c.requires

pub overflow_add-s : goal.overflow_add-s
overflow_add-s c = omega arith

pub bounds-s-from : goal.bounds-s-from
bounds-s-from c = let e = copying_length c.loop-i.invariant in omega arith

pub overflow_add-s-in-loop-i : goal.overflow_add-s-in-loop-i
overflow_add-s-in-loop-i c = omega arith

pub bounds-s-to : goal.bounds-s-to
bounds-s-to c = let e = copying_length c.loop-i.invariant in omega arith

pub loop-i-preserved : goal.loop-i-preserved
loop-i-preserved c = copying_more c.loop-i.invariant c.loop-i-test.true

pub shape_of-s : goal.shape_of-s
shape_of-s c = copying_length c.loop-i.invariant

pub returns : goal.returns
returns c = copying_all c.loop-i.invariant c.loop-i-test.false
