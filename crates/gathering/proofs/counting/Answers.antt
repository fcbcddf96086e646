-- `counting` meets its contract: 28, or the integers with a heading before them.
use native.Mathlib.Omega.{arith}
use Rattle.calling.proofs.Answering.{gives_off}
use Rattle.gathering.proofs.Spans.{counting_off, counting_gives}
use Rattle.gathering.proofs.counting.Goals as goal

pub returns-then-size-gt-LIMIT : goal.returns-then-size-gt-LIMIT
returns-then-size-gt-LIMIT c = gives_off (counting_off c.args.from c.args.n (omega arith))

pub returns : goal.returns
returns c = counting_gives c.args.n c.ranges.from (omega arith) c.put_integers.ensures c.put_head.ensures
