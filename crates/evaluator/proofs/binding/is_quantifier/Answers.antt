use Prim.Native.Nat.{◌/◌}
use native.Mathlib.Omega.{arith}
use borrow.Author.Tests.{eqb-true, eqb-false}
use Rattle.evaluator.proofs.Deciding.{quantifier_of}
use Rattle.evaluator.proofs.binding.is_quantifier.Goals as goal

pub returns : goal.returns
returns c =
    record { yes = λ e. quantifier_of (eqb-true (c.args.k / 2) 7 e); no = λ e. (λ x. eqb-false (c.args.k / 2) 7 e (omega arith), λ x. eqb-false (c.args.k / 2) 7 e (omega arith)) }
