use native.Mathlib.Omega.{arith}
use Rattle.forming.proofs.Sizing.{sum_over}
use Rattle.forming.proofs.sizes.sum.Goals as goal

pub returns-then-a-b-gt-MOST : goal.returns-then-a-b-gt-MOST
returns-then-a-b-gt-MOST c = sum_over _ _ (omega arith)
