-- `range` meets its contract.
use Rattle.map_operators.proofs.Halving.{values_has, range_done}
use Rattle.map_operators.proofs.range.Goals as goal

pub elements-requires : goal.elements-requires
elements-requires c = values_has c.requires c.every_other.ensures

pub returns : goal.returns
returns c = range_done c.requires c.every_other.ensures c.elements.ensures
