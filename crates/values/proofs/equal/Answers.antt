-- `equal` meets its contract. One answer of the order says that they are equal.
use Rattle.values.proofs.Ordering.{equal_is}
use Rattle.values.proofs.equal.Goals as goal

pub returns : goal.returns
returns c = equal_is _ _ c.compare.ensures c.is_eq.ensures
