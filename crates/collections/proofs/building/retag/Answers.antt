-- `collections::building::retag` meets its contract.
use native.Mathlib.Omega.{arith}
use Rattle.values.proofs.Records.{holds}
use Rattle.collections.proofs.Additions.{retagged}
use Rattle.collections.proofs.building.retag.Goals as goal

pub length_of-n-requires : goal.length_of-n-requires
length_of-n-requires c = holds c.requires.0.here

pub put_head-requires : goal.put_head-requires
put_head-requires c =
    let h = holds c.requires.0.here in
    let high = c.length_of-n.ensures.high in
    (omega arith, omega arith, c.requires.1)

pub returns : goal.returns
returns c = retagged c.length_of-n.ensures.is c.put_head.ensures
