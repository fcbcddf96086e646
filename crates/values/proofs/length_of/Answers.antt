-- `length_of` meets its contract.
use Rattle.values.proofs.Reading.{length_is}
use Rattle.values.proofs.length_of.Goals as goal

pub returns : goal.returns
returns c = length_is c.read16.ensures.is c.requires
