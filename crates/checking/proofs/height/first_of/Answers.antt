-- Kind by kind.
use Rattle.checking.proofs.Heights.{first_operator, first_other}
use Rattle.checking.proofs.height.first_of.Goals as goal

pub returns-then-kind-lt-IF : goal.returns-then-kind-lt-IF
returns-then-kind-lt-IF c = first_operator c.args.kind c.requires.0 c.requires.1 c.if-kind-lt-IF.true

pub returns : goal.returns
returns c = first_other c.args.kind c.requires.0 c.requires.1 c.if-kind-lt-IF.false
