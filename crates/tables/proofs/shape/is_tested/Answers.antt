-- As computed over all kinds.
use mathlib.Core.Path.{refl}
use Rattle.tables.specs.Shapes.{is_tested}
use Rattle.tables.proofs.Heads.{bit_tells}
use Rattle.tables.proofs.shape.is_tested.Goals as goal

pub returns : goal.returns
returns c = bit_tells _ 1 is_tested refl c.args.kind c.requires
