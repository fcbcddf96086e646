-- The bit of the length in the row of the kind decides; no record is longer than 12.
use Rattle.tables.proofs.Lengths.{too_long, by_bit}
use Rattle.tables.proofs.shape.fits_kind.Goals as goal

pub returns-then-len-gt-LONGEST : goal.returns-then-len-gt-LONGEST
returns-then-len-gt-LONGEST c =
    too_long c.args.kind c.requires.kind_known.0 c.args.len c.requires.kind_known.1 c.if-len-gt-LONGEST.true

pub returns : goal.returns
returns c =
    rw c.requires.lengths_known (by_bit c.args.kind c.requires.kind_known.0 c.args.len c.requires.kind_known.1 c.if-len-gt-LONGEST.false)
