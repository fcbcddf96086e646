-- `set_operators::binary_set` meets its contract.
use Rattle.calling.proofs.Numbered.{binary_as}
use Rattle.set_operators.proofs.binary_set.Goals as goal

pub returns-then-operator-eq-UNION : goal.returns-then-operator-eq-UNION
returns-then-operator-eq-UNION c = binary_as 19 c.if-operator-eq-UNION.true c.union.ensures
