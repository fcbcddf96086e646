-- The heights of all records before r stand, and none is over the limit.
use mathlib.Core.Path.{◌≡◌, ap}
use Prim.Native.Nat.{ℕ, ◌+◌}
use native.Mathlib.Omega.{arith}
use lib.ListN.{replicate, length-replicate}
use Rattle.prelude.proofs.Truth.{by_lower}
use Rattle.tables.specs.Sheet.{height}
use Rattle.tables.specs.Accepted.{records}
use Rattle.checking.proofs.Below.{filled_start, filled_more}
use Rattle.checking.proofs.Heights.{tall_first, none_tall}
use Rattle.checking.proofs.height.lowest_tall.Goals as goal

pub loop-r-init : goal.loop-r-init
loop-r-init c =
    (omega arith, filled_start (height (records c.args.sheet.now)) (replicate 200 0) (length-replicate {A = ℕ} 200 0), λ q k. absurd (omega arith))

pub highest-high-requires : goal.highest-high-requires
highest-high-requires c =
    record { here = record { few = c.requires.whole.few; within = omega (arith, c.loop-r-test.true, c.requires.whole.all) }; clear = c.requires.clear; noted = c.loop-r.invariant.1 }

pub returns-then-high-ge-MOST_HEIGHT : goal.returns-then-high-ge-MOST_HEIGHT
returns-then-high-ge-MOST_HEIGHT c =
    tall_first (records c.args.sheet.now) c.requires.clear c.args.count c.loop-r.r (omega (arith, c.loop-r-test.true)) c.loop-r.invariant.2 (omega (arith, c.highest-high.ensures, c.if-high-ge-MOST_HEIGHT.true))

pub overflow_add-heights : goal.overflow_add-heights
overflow_add-heights c = omega (arith, c.if-high-ge-MOST_HEIGHT.false)

pub overflow_cast-heights : goal.overflow_cast-heights
overflow_cast-heights c = omega (arith, c.if-high-ge-MOST_HEIGHT.false)

pub bounds-heights-r : goal.bounds-heights-r
bounds-heights-r c = omega (arith, c.loop-r-test.true, c.requires.whole.all, c.requires.whole.few)

pub loop-r-preserved : goal.loop-r-preserved
loop-r-preserved c =
    (omega (arith, c.loop-r-test.true), filled_more (height (records c.args.sheet.now)) c.loop-r.heights c.loop-r.r (c.highest-high.result + 1) (omega (arith, c.loop-r-test.true, c.requires.whole.all, c.requires.whole.few)) c.loop-r.invariant.1 (omega (arith, c.highest-high.ensures)), λ q k. by_lower q c.loop-r.r (λ l. c.loop-r.invariant.2 q l) (λ l. let same : q ≡ c.loop-r.r = omega arith in omega (arith, ap (height (records c.args.sheet.now)) same, c.highest-high.ensures, c.if-high-ge-MOST_HEIGHT.false)))

pub returns : goal.returns
returns c = none_tall (records c.args.sheet.now) c.requires.clear c.args.count (λ q k. c.loop-r.invariant.2 q (omega (arith, c.loop-r-test.false)))
