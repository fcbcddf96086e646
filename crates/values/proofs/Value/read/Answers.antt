-- `Value::read` meets its contract: the record's bytes stand before what is left of the zeros.
use Rattle.values.proofs.Copying.{shown}
use Rattle.values.proofs.Value.read.Goals as goal

pub returns : goal.returns
returns c = shown c.length_of-n.ensures c.copy_from_slice.ensures.after
