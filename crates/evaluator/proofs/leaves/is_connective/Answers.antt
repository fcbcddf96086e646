use borrow.Author.Tests.{leb-true, leb-false}
use Rattle.prelude.proofs.Absurd.{never}
use Rattle.evaluator.proofs.leaves.is_connective.Goals as goal

pub returns-then-k-ne-BINARY : goal.returns-then-k-ne-BINARY
returns-then-k-ne-BINARY c = record { yes = λ e. never e; no = λ e i. absurd (c.if-k-ne-BINARY.true i) }

pub returns : goal.returns
returns c = record { yes = λ e. (c.if-k-ne-BINARY.false, leb-true _ _ e); no = λ e i. leb-false _ _ e }
