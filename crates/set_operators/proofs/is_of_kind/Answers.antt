-- `set_operators::is_of_kind` meets its contract.
use Rattle.set_operators.proofs.Telling.{kind_told}
use Rattle.set_operators.proofs.is_of_kind.Goals as goal

pub returns : goal.returns
returns c = kind_told c.kind_of.ensures c.requires
