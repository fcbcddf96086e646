-- `kinds_are` meets its contract.
use borrow.Author.Tests.{ne_eqb}
use Rattle.calling.proofs.Kinding.{kinds_not, kinds_second}
use Rattle.calling.proofs.kinds_are.Goals as goal

pub returns-then-kind_of-first : goal.returns-then-kind_of-first
returns-then-kind_of-first c = kinds_second _ c.kind_of.ensures c.if-kind_of-first.true c.kind_of-then-kind_of-first.ensures

pub returns-else-kind_of-first : goal.returns-else-kind_of-first
returns-else-kind_of-first c = rw (ne_eqb _ _ c.if-kind_of-first.false) (kinds_not _ c.kind_of.ensures c.if-kind_of-first.false)
