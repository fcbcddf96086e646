-- `put_integers` meets its contract. The loop has written i of them.
use native.Mathlib.Omega.{arith}
use Rattle.gathering.proofs.Spans.{integers_none, integers_more, spans_integers, added_fits, added_is, added_range}
use Rattle.gathering.proofs.put_integers.Goals as goal

pub loop-i-init : goal.loop-i-init
loop-i-init c = integers_none _ _ _ (omega arith)

pub overflow_mul-i : goal.overflow_mul-i
overflow_mul-i c = omega arith

pub overflow_add-at : goal.overflow_add-at
overflow_add-at c = omega arith

pub overflow_cast-i : goal.overflow_cast-i
overflow_cast-i c = omega arith

pub overflow_add-from : goal.overflow_add-from
overflow_add-from c = added_fits c.ranges.from (omega arith) c.requires.fine c.loop-i-test.true

pub put_integer-requires : goal.put_integer-requires
put_integer-requires c =
    (omega (arith, c.loop-i.invariant.outside.long), added_range c.ranges.from (omega arith) c.requires.fine c.loop-i-test.true)

pub loop-i-preserved : goal.loop-i-preserved
loop-i-preserved c =
    integers_more c.loop-i.i c.loop-i.invariant (added_is c.ranges.from (omega arith) c.requires.fine c.loop-i-test.true) c.put_integer.ensures (omega arith)

pub shape_of-s : goal.shape_of-s
shape_of-s c = c.loop-i.invariant.outside.long

pub returns : goal.returns
returns c = spans_integers c.ranges.from c.loop-i.auto.i-end c.loop-i-test.false c.loop-i.invariant
