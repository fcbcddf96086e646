-- `domain` meets its contract.
use native.Mathlib.Omega.{arith}
use Rattle.map_operators.proofs.Halving.{keys_held, domain_done}
use Rattle.map_operators.proofs.domain.Goals as goal

pub retag-requires : goal.retag-requires
retag-requires c = (keys_held c.requires c.every_other.ensures, omega arith)

pub returns : goal.returns
returns c = domain_done c.requires c.every_other.ensures c.retag.ensures
