-- `set_operators::two_sets` meets its contract.
use Rattle.set_operators.proofs.Telling.{left_no, left_yes}
use Rattle.set_operators.proofs.two_sets.Goals as goal

pub returns-then-is_of_kind : goal.returns-then-is_of_kind
returns-then-is_of_kind c = left_yes c.is_of_kind.ensures c.if-is_of_kind.true c.is_of_kind-then-is_of_kind.ensures

pub returns : goal.returns
returns c = left_no c.is_of_kind.ensures c.if-is_of_kind.false
