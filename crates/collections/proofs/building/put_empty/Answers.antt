-- `collections::building::put_empty` meets its contract.
use Rattle.collections.proofs.Additions.{emptied}
use Rattle.collections.proofs.building.put_empty.Goals as goal

pub returns : goal.returns
returns c = emptied c.requires.0 c.put_head.ensures
