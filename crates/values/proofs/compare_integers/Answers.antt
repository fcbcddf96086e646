-- `compare_integers` meets its contract.
use Rattle.values.proofs.Ordering.{by_integers}
use mathlib.Core.Path.{ap₂, ◌∙◌}
use mir.Syntax.{w32}
use mir.ValLaws.{to_z-of_z}
use Rattle.integers.specs.Order.{order_ℤ}
use Rattle.values.proofs.compare_integers.Goals as goal

pub returns : goal.returns
returns c =
    by_integers _ c.integer_at-x.ensures c.integer_at-y.ensures (c.compare.ensures ∙ ap₂ order_ℤ (to_z-of_z w32 c.integer_at-x.result (record { sfits = c.integer_at-x.type_inv })) (to_z-of_z w32 c.integer_at-y.result (record { sfits = c.integer_at-y.type_inv })))
