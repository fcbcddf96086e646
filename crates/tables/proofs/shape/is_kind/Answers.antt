-- As computed over all kinds.
use mathlib.Core.Path.{refl}
use mathlib.Core.Bool.{◌||◌}
use Rattle.tables.specs.Record.{shape, is_expression, is_pattern}
use Rattle.tables.proofs.Heads.{bit_tells}
use Rattle.tables.proofs.shape.is_kind.Goals as goal

pub returns : goal.returns
unfolding shape
returns c = bit_tells _ 1 (λ k. is_expression k || is_pattern k) refl c.args.kind c.requires
