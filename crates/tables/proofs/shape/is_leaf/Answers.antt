-- As computed over all kinds.
use mathlib.Core.Path.{refl}
use Rattle.tables.specs.Record.{shape, is_leaf}
use Rattle.tables.proofs.Heads.{bit_tells}
use Rattle.tables.proofs.shape.is_leaf.Goals as goal

pub returns : goal.returns
unfolding shape
returns c = bit_tells _ 0 is_leaf refl c.args.kind c.requires
