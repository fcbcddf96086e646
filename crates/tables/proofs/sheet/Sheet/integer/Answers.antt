-- The integer is the four fields.
use mir.Syntax.{w32}
use Rattle.tables.specs.Reading.{HasField}
use Rattle.tables.proofs.Stand.{integer_is}
use mir.Facts.{to_z-of_z}
use mathlib.Core.Path.{◌∙◌}
use Rattle.tables.proofs.sheet.Sheet.integer.Goals as goal

pub returns : goal.returns
returns c =
    let has : HasField c.self.inside.table.now c.args.r 3 = rw c.self.view_is c.requires in
    to_z-of_z {w = w32} (record { sfits = c.read32.type_inv }) ∙ c.read32.ensures ∙ rw (← c.self.view_is) (integer_is c.self.inside.table.now c.self.inside.index.now c.args.r c.self.invariant has.here c.place-at.result c.place-at.ensures has.has)
