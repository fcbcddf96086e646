-- As computed over all kinds.
use mathlib.Core.Path.{refl}
use Rattle.tables.specs.Record.{shape}
use Rattle.tables.proofs.Heads.{bit_tells}
use Rattle.tables.proofs.shape.is_loose.Goals as goal

pub returns : goal.returns
unfolding shape
returns c = bit_tells _ 1 (λ k. (shape k).loose) refl c.args.kind c.requires
