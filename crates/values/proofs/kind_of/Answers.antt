-- `kind_of` meets its contract.
use Rattle.values.proofs.Reading.{kind_is}
use Rattle.values.proofs.kind_of.Goals as goal

pub returns : goal.returns
returns c = kind_is c.read16.ensures.is c.requires
