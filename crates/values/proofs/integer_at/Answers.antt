-- `integer_at` meets its contract. The bits there are those of the one integer that stands there.
use mathlib.Core.Path.{◌∙◌}
use mir.Syntax.{w32}
use mir.ValLaws.{to_z-of_z}
use native.Mathlib.Omega.{arith}
use Rattle.values.proofs.Reading.{integer_room, integer_here}
use Rattle.values.proofs.integer_at.Goals as goal

pub read32-requires : goal.read32-requires
read32-requires c = omega (arith, integer_room c.requires.held c.requires.kind)

pub returns : goal.returns
returns c =
    integer_here c.requires.held c.requires.kind (to_z-of_z w32 c.read32.result (record { sfits = c.read32.type_inv }) ∙ c.read32.ensures)
