-- `left` meets its contract: one truth value waits for the right, and the other is settled.
use Rattle.calling.proofs.Kinding.{no_boolean}
use Rattle.scalars.proofs.Lefts.{no_left, left_waits, left_answers}
use Rattle.scalars.proofs.left.Goals as goal

pub returns-then-kind-ne-BOOLEAN : goal.returns-then-kind-ne-BOOLEAN
returns-then-kind-ne-BOOLEAN c = no_left (no_boolean c.kind_of-kind.ensures c.if-kind-ne-BOOLEAN.true)

pub returns-then-b-operator : goal.returns-then-b-operator
returns-then-b-operator c = left_waits c.args.operator c.requires.1 c.requires.2 c.boolean_at-b.ensures c.if-b-operator.true

pub returns : goal.returns
returns c =
    left_answers c.args.operator c.requires.1 c.requires.2 c.boolean_at-b.ensures c.if-b-operator.false c.put_boolean.ensures
