use mathlib.Core.Path.{refl}
use native.Mathlib.Omega.{arith}
use Rattle.evaluator.proofs.Running.{run_some, run_asks, run_done}
use Rattle.evaluator.proofs.run_sheet.Goals as goal

pub overflow_sub-count : goal.overflow_sub-count
overflow_sub-count c = omega (arith, run_some c.requires)

pub eval-requires : goal.eval-requires
eval-requires c = run_asks c.requires refl refl

pub returns : goal.returns
returns c = run_done c.requires refl refl c.eval.ensures
