-- The index has the kind.
use Rattle.tables.specs.Reading.{Here}
use Rattle.tables.proofs.Stand.{entry_read, kind_few}
use native.Mathlib.Omega.{arith}
use Rattle.tables.proofs.sheet.Sheet.kind.Goals as goal

pub returns : goal.returns
returns c =
    let within : Here c.self.inside.table.now c.args.r = rw c.self.view_is c.requires in
    let is = (entry_read c.self.inside.table.now c.self.inside.index.now c.args.r c.self.invariant within c.entry_at.result c.entry_at.ensures).kind in
    rw (← c.self.view_is) (is, omega (arith, is, kind_few c.self.inside.table.now c.args.r within))
