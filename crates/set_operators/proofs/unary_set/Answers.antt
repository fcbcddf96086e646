-- `set_operators::unary_set` meets its contract.
use native.Mathlib.Omega.{arith}
use Rattle.calling.proofs.Numbered.{unary_as}
use Rattle.set_operators.proofs.unary_set.Goals as goal

pub returns-then-operator-eq-CARD : goal.returns-then-operator-eq-CARD
returns-then-operator-eq-CARD c = unary_as 4 c.if-operator-eq-CARD.true c.cardinality.ensures

pub returns-then-operator-eq-DUNION : goal.returns-then-operator-eq-DUNION
returns-then-operator-eq-DUNION c = unary_as 5 c.if-operator-eq-DUNION.true c.distributed_union.ensures

pub returns : goal.returns
returns c = unary_as 6 (omega arith) c.distributed_intersection.ensures
