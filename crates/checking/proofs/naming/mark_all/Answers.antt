-- After r records, the numbers that they name are marked.
use Rattle.checking.proofs.Marks.{records_start, records_more, records_end}
use Rattle.tables.specs.Accepted.{records}
use native.Mathlib.Omega.{arith}
use Rattle.checking.proofs.naming.mark_all.Goals as goal

pub loop-r-init : goal.loop-r-init
loop-r-init c = records_start (records c.args.sheet.now) c.args.marks.now c.requires.marked

pub mark_next-low-requires : goal.mark_next-low-requires
mark_next-low-requires c =
    record { ask = record { here = record { few = c.requires.whole.few; within = omega (arith, c.loop-r-test.true, c.requires.whole.all) }; marked = c.loop-r.invariant.marked }; is = c.loop-r.invariant.is }

pub loop-r-preserved : goal.loop-r-preserved
loop-r-preserved c =
    records_more c.args.sheet.now c.loop-r.marks _ c.loop-r.low c.loop-r.r c.mark_next-low.result c.loop-r.invariant (omega (arith, c.loop-r-test.true, c.requires.whole.all)) c.mark_next-low.ensures

pub returns : goal.returns
returns c =
    records_end c.args.sheet.now c.loop-r.marks c.loop-r.low c.loop-r.r c.loop-r.invariant (omega (arith, c.loop-r-test.false, c.requires.whole.all))
