-- The records that are left are those of the bytes that are left.
use mathlib.Core.Path.{refl}
use native.Mathlib.Omega.{arith}
use lib.ListN.{length-drop}
use Rattle.tables.proofs.Cutting.{part-rest, measured, unmeasured, measured_within, next_long, noted, not_noted, cutting_start, cutting_end, turn_bad, cutting_more}
use Rattle.tables.proofs.reading.cut.Goals as goal
use Rattle.tables.proofs.reading.cut.Goals.{then-count-lt-MOST_RECORDS, else-count-lt-MOST_RECORDS}

pub loop-at-init : goal.loop-at-init
loop-at-init c = (cutting_start _ _ c.requires.1, refl)

pub returns-in_default : goal.returns-in_default
returns-in_default c =
    turn_bad c.args.table.now c.loop-at.index c.loop-at.at c.loop-at.count c.loop-at.invariant.0 c.loop-at-test.true (unmeasured c.args.table.now c.loop-at.at c.in_default.ensures)

pub entry-e-requires : goal.entry-e-requires
entry-e-requires c =
    let m = measured c.args.table.now c.loop-at.at c.in-Some.len c.in-Some.ensures in (
      omega (arith, c.loop-at.invariant.0.within, c.requires.1),
      next_long c.args.table.now c.loop-at.at c.in-Some.len m,
      rw (part-rest c.args.table.now c.loop-at.at) (omega (arith, length-drop c.loop-at.at c.args.table.now, measured_within c.args.table.now c.loop-at.at c.in-Some.len m)),
    )

pub loop-at-smaller : goal.loop-at-smaller
loop-at-smaller c = omega (arith, next_long c.args.table.now c.loop-at.at c.in-Some.len (measured c.args.table.now c.loop-at.at c.in-Some.len c.in-Some.ensures))

pub loop-at-preserved : goal.loop-at-preserved
loop-at-preserved c =
    let m = measured c.args.table.now c.loop-at.at c.in-Some.len c.in-Some.ensures in (
      cutting_more c.args.table.now c.loop-at.index c.loop-at.at c.loop-at.count c.loop-at.invariant.0 c.loop-at-test.true c.in-Some.len c.if-count-lt-MOST_RECORDS.index m.good m.is
          (elim c.if-count-lt-MOST_RECORDS.branch [
            | then-count-lt-MOST_RECORDS w ↦ noted c.args.table.now c.loop-at.index c.if-count-lt-MOST_RECORDS.index c.loop-at.count c.loop-at.at c.in-Some.len c.entry-e.result c.loop-at.invariant.0.long c.entry-e.ensures w.index-is
            | else-count-lt-MOST_RECORDS w ↦ not_noted c.args.table.now c.loop-at.index c.if-count-lt-MOST_RECORDS.index c.loop-at.count c.loop-at.at c.in-Some.len c.loop-at.invariant.0.long w.index-is w.if-count-lt-MOST_RECORDS.false
          ]),
      c.loop-at.invariant.1,
    )

pub returns : goal.returns
returns c =
    cutting_end c.args.table.now c.loop-at.index c.loop-at.at c.loop-at.count c.loop-at.invariant.0 c.loop-at-test.false
