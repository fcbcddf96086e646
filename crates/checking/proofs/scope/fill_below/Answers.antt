-- After r records, the bits below each of them stand.
use Rattle.checking.proofs.Below.{filled_start, filled_more}
use Rattle.checking.specs.Scopes.{bits_below}
use Rattle.tables.specs.Accepted.{records}
use lib.ListN.{length}
use native.Mathlib.Omega.{arith}
use mathlib.Core.Path.{◌≡◌, sym}
use Rattle.checking.proofs.scope.fill_below.Goals as goal

pub loop-r-init : goal.loop-r-init
loop-r-init c = (omega arith, filled_start (bits_below (records c.args.sheet.now)) c.args.below.now c.requires.1)

pub held_at-requires : goal.held_at-requires
held_at-requires c =
    record { here = record { few = c.requires.0.whole.few; within = omega (arith, c.loop-r-test.true, c.requires.0.whole.all) }; clear = c.requires.0.clear; below = c.loop-r.invariant.1 }

pub offset_bounds-below-r : goal.offset_bounds-below-r
offset_bounds-below-r c = omega (arith, c.loop-r-test.true, c.requires.0.whole.all, c.requires.0.whole.few)

pub bounds-below-r : goal.bounds-below-r
bounds-below-r c = omega (arith, c.loop-r-test.true, c.requires.0.whole.all, c.requires.0.whole.few)

pub loop-r-preserved : goal.loop-r-preserved
loop-r-preserved c =
    (omega (arith, c.loop-r-test.true), filled_more (bits_below (records c.args.sheet.now)) c.loop-r.below c.loop-r.r c.held_at.result (omega (arith, c.loop-r-test.true, c.requires.0.whole.all, c.requires.0.whole.few)) c.loop-r.invariant.1 c.held_at.ensures)

pub returns : goal.returns
returns c =
    let all : c.loop-r.r ≡ length (records c.args.sheet.now) = omega (arith, c.loop-r.invariant.0, c.loop-r-test.false, c.requires.0.whole.all) in rw (sym all) c.loop-r.invariant.1
