-- `indexes` meets its contract.
use Rattle.sequence_operators.proofs.Counts.{index_room, index_done}
use Rattle.sequence_operators.proofs.indexes.Goals as goal

pub counting-requires : goal.counting-requires
counting-requires c = index_room c.requires c.count_of-n.ensures

pub returns : goal.returns
returns c = index_done c.requires c.count_of-n.ensures c.counting.ensures
