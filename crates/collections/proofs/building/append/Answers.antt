-- `collections::building::append` meets its contract.
use native.Mathlib.Omega.{arith}
use Rattle.values.proofs.Records.{holds}
use Rattle.collections.proofs.Additions.{append_slot, appended}
use Rattle.collections.proofs.building.append.Goals as goal

pub length_of-n-requires : goal.length_of-n-requires
length_of-n-requires c = holds c.requires.held.here

pub add-requires : goal.add-requires
add-requires c = (append_slot c.requires c.length_of-n.ensures.is, omega arith)

pub returns : goal.returns
returns c = appended c.length_of-n.ensures.is c.add.ensures
