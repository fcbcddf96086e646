-- `passes` meets its contract.
use Rattle.map_operators.proofs.Restricting.{key_passes, value_passes}
use Rattle.map_operators.proofs.passes.Goals as goal

pub returns-then-keys : goal.returns-then-keys
returns-then-keys c = key_passes c.if-keys.true c.contains.ensures

pub returns : goal.returns
returns c = value_passes c.if-keys.false c.contains-2.ensures
