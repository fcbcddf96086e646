use native.Mathlib.Omega.{arith}
use lib.Count.{ones-le}
use Rattle.forming.proofs.Sizing.{first-none, first_more, first_on}
use Rattle.forming.proofs.sizes.split_from.Goals as goal

pub loop-e-init : goal.loop-e-init
loop-e-init c = first-none _ _ _ _

pub overflow_cast-n : goal.overflow_cast-n
overflow_cast-n c = omega (arith, ones-le 64 c.loop-e.e (omega arith))

pub overflow_sub-few : goal.overflow_sub-few
overflow_sub-few c = omega arith

pub overflow_sub-w : goal.overflow_sub-w
overflow_sub-w c = omega arith

pub returns-then-w-e : goal.returns-then-w-e
returns-then-w-e c = first_on _ _ _ _ _ c.loop-e.invariant (omega arith) (omega arith) (omega arith)

pub overflow_add-e : goal.overflow_add-e
overflow_add-e c = omega arith

pub loop-e-smaller-then-n-r : goal.loop-e-smaller-then-n-r
loop-e-smaller-then-n-r c = omega arith

pub loop-e-preserved-then-n-r : goal.loop-e-preserved-then-n-r
loop-e-preserved-then-n-r c = first_on _ _ _ _ _ c.loop-e.invariant (omega arith) (omega arith) (omega arith)

pub returns-then-n-r-2 : goal.returns-then-n-r-2
returns-then-n-r-2 c = c.loop-e.invariant

pub overflow_add-e-else-n-r : goal.overflow_add-e-else-n-r
overflow_add-e-else-n-r c = omega arith

pub loop-e-smaller : goal.loop-e-smaller
loop-e-smaller c = omega arith

pub loop-e-preserved : goal.loop-e-preserved
loop-e-preserved c = first_more _ _ _ _ _ c.loop-e.invariant (omega arith) (λ a b. omega arith)

pub returns : goal.returns
returns c = c.loop-e.invariant
