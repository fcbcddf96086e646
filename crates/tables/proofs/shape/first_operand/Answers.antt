-- As computed over all kinds.
use native.Mathlib.Omega.{arith}
use Rattle.tables.proofs.Lengths.{first-is, first_most}
use Rattle.tables.proofs.shape.first_operand.Goals as goal

pub returns : goal.returns
returns c =
    let is = first-is c.args.kind c.requires in (is, omega (arith, is, first_most c.args.kind c.requires))
