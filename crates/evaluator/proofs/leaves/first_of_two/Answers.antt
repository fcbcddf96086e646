use Rattle.evaluator.proofs.Firsts.{after_binary, two_first}
use Rattle.evaluator.proofs.leaves.first_of_two.Goals as goal

pub returns-then-k-eq-BINARY : goal.returns-then-k-eq-BINARY
returns-then-k-eq-BINARY c = after_binary c.if-k-eq-BINARY.true

pub returns-else-k-eq-BINARY : goal.returns-else-k-eq-BINARY
returns-else-k-eq-BINARY c = two_first c.requires c.if-k-eq-BINARY.false
