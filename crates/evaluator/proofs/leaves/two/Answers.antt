use Rattle.evaluator.proofs.Simple.{two_binary, two_range, two_apply, two_operator}
use Rattle.evaluator.proofs.leaves.two.Goals as goal

pub binary-requires : goal.binary-requires
binary-requires c = (c.requires.0, two_operator c.requires.1 c.if-k-eq-BINARY.true)

pub returns-then-k-eq-BINARY : goal.returns-then-k-eq-BINARY
returns-then-k-eq-BINARY c = two_binary c.args.k c.args.op c.if-k-eq-BINARY.true c.binary.ensures

pub returns-then-k-eq-RANGE : goal.returns-then-k-eq-RANGE
returns-then-k-eq-RANGE c = two_range c.args.k c.args.op c.if-k-eq-BINARY.false c.if-k-eq-RANGE.true c.range.ensures

pub returns : goal.returns
returns c = two_apply c.args.k c.args.op c.if-k-eq-BINARY.false c.if-k-eq-RANGE.false c.apply.ensures
