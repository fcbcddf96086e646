use Rattle.calling.proofs.Kinding.{no_boolean}
use Rattle.evaluator.proofs.Simple.{told_boolean}
use Rattle.evaluator.proofs.leaves.test.Goals as goal

pub returns-then-kind_of-ne-BOOLEAN : goal.returns-then-kind_of-ne-BOOLEAN
returns-then-kind_of-ne-BOOLEAN c = λ v a. no_boolean c.kind_of.ensures c.if-kind_of-ne-BOOLEAN.true v a

pub returns : goal.returns
returns c = told_boolean c.boolean_at.ensures
