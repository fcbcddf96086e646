-- The bits below, then the bits around, then the lowest record at fault of either rule.
use Rattle.checking.proofs.Above.{around_start}
use Rattle.tables.specs.Accepted.{records}
use Rattle.checking.proofs.scope.lowest78.Goals as goal

pub fill_around-requires : goal.fill_around-requires
fill_around-requires c =
    record { kept = c.requires; below = c.fill_below.ensures; around = around_start (records c.args.sheet.now) c.requires.clear }
