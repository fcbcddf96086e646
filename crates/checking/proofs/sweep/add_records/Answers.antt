-- After r records, all of them are added.
use mathlib.Core.Path.{refl, sym, ◌∙◌}
use native.Mathlib.Omega.{arith}
use Rattle.prelude.proofs.Absurd.{never}
use Rattle.tables.specs.Accepted.{records}
use Rattle.checking.proofs.Adding.{runs_start, runs-more, runs_end}
use Rattle.checking.proofs.sweep.add_records.Goals as goal

pub loop-r-init : goal.loop-r-init
loop-r-init c =
    runs_start (records c.args.sheet.now) c.args.left.now c.args.below.now c.args.frees.now c.requires.left_is c.requires.kept

pub add_record-requires : goal.add_record-requires
add_record-requires c =
    record { here = record { few = c.requires.whole.few; within = omega (arith, c.loop-r-test.true, c.requires.whole.all) }; left_is = c.loop-r.invariant.left_is; kept = c.loop-r.invariant.kept }

pub returns-then-not-add_record : goal.returns-then-not-add_record
returns-then-not-add_record c = (λ e. never e, λ keeps. sym c.if-not-add_record.true ∙ c.add_record.ensures.1 keeps)

pub loop-r-preserved : goal.loop-r-preserved
loop-r-preserved c =
    runs-more (records c.args.sheet.now) c.loop-r.left c.loop-r.below c.loop-r.frees _ _ _ c.loop-r.r (omega (arith, c.loop-r-test.true, c.requires.whole.all)) c.loop-r.invariant (c.add_record.ensures.0 c.if-not-add_record.false)

pub returns : goal.returns
returns c =
    (λ e. runs_end (records c.args.sheet.now) c.loop-r.left c.loop-r.below c.loop-r.frees c.loop-r.r c.loop-r.invariant (omega (arith, c.loop-r-test.false, c.requires.whole.all)), λ keeps. refl)
