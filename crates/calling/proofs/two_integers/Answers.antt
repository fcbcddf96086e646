-- `two_integers` meets its contract: two integers are read, or one of the kinds is another.
use Rattle.operators.specs.Answer.{as_integer}
use Rattle.calling.proofs.Kinding.{no_integer, needs_left, needs_right}
use Rattle.calling.specs.Operands.{others}
use Rattle.calling.proofs.Pairs.{integers_read}
use Rattle.calling.proofs.two_integers.Goals as goal

pub returns-then-first-ne-INTEGER : goal.returns-then-first-ne-INTEGER
returns-then-first-ne-INTEGER c =
    others (λ v w a b f. needs_left (as_integer w) f (no_integer c.kind_of-first.ensures c.if-first-ne-INTEGER.true v a))

pub returns-then-second-ne-INTEGER : goal.returns-then-second-ne-INTEGER
returns-then-second-ne-INTEGER c =
    others (λ v w a b f. needs_right (as_integer v) f (no_integer c.kind_of-second.ensures c.if-second-ne-INTEGER.true w b))

pub returns : goal.returns
returns c = integers_read c.integer_at-a.ensures c.integer_at-b.ensures
