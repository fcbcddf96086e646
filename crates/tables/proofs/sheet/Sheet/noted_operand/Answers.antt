-- Byte 5 is the second field.
use Rattle.tables.specs.Table.{kind_at}
use Rattle.tables.specs.Shapes.{first_of}
use Rattle.tables.specs.Accepted.{records}
use Rattle.tables.specs.Reading.{HasOperand}
use Rattle.tables.proofs.Stand.{second_operand}
use native.Mathlib.Omega.{arith}
use mathlib.Core.Path.{◌≡◌}
use Rattle.tables.proofs.sheet.Sheet.noted_operand.Goals as goal

pub returns : goal.returns
returns c =
    let has : HasOperand c.self.inside.table.now c.args.r c.args.i = rw c.self.view_is c.requires.0 in
    let first : c.args.first ≡ first_of (kind_at (records c.self.inside.table.now) c.args.r) = rw c.self.view_is c.requires.1 in
    rw (← c.self.view_is) (second_operand c.self.inside.table.now c.self.inside.index.now c.args.r c.self.invariant has.here c.args.i has.has c.entry_at.result c.entry_at.ensures (omega (arith, first, c.requires.2)), omega arith)
