-- A literal and any come to nothing; for others, what was gathered is added.
use mathlib.Core.Path.{refl, ap, ◌∙◌}
use mathlib.Core.Logic.{inl, inr}
use native.Mathlib.Omega.{arith}
use Rattle.prelude.proofs.Absurd.{never}
use Rattle.tables.specs.Accepted.{records}
use Rattle.checking.specs.Sweeps.{sort_of}
use Rattle.checking.proofs.Shapes.{sort_literal, sort_any}
use Rattle.checking.proofs.Adding.{record_added, bare_added}
use Rattle.checking.proofs.sweep.add_record.Goals as goal

pub returns-then-k-lt-NAME : goal.returns-then-k-lt-NAME
returns-then-k-lt-NAME c =
    (λ e. bare_added (records c.args.sheet.now) c.args.below.now c.args.frees.now c.args.r c.args.left.now c.requires.here.few c.requires.here.within (inl (omega (arith, c.kind-k.ensures.0, c.if-k-lt-NAME.true))) c.requires.left_is c.requires.kept 1 (sort_literal _ (omega (arith, c.kind-k.ensures.0, c.if-k-lt-NAME.true))), λ keeps. refl)

pub returns-then-k-eq-ANY_PATTERN : goal.returns-then-k-eq-ANY_PATTERN
returns-then-k-eq-ANY_PATTERN c =
    (λ e. bare_added (records c.args.sheet.now) c.args.below.now c.args.frees.now c.args.r c.args.left.now c.requires.here.few c.requires.here.within (inr (omega (arith, c.kind-k.ensures.0, c.if-k-eq-ANY_PATTERN.true))) c.requires.left_is c.requires.kept 2 (sort_any _ (omega (arith, c.kind-k.ensures.0, c.if-k-eq-ANY_PATTERN.true))), λ keeps. refl)

pub sum_of-requires : goal.sum_of-requires
sum_of-requires c = (record { ask = c.requires; is = c.kind-k.ensures.0 }, omega (arith, c.if-k-lt-NAME.false))

pub returns-in_default : goal.returns-in_default
returns-in_default c = (λ e. never e, λ keeps. c.in_default.ensures.told keeps)

pub returns : goal.returns
returns c =
    (λ e. record_added (records c.args.sheet.now) c.args.below.now c.args.frees.now c.args.r _ c.in-Some.s c.requires.here.few c.requires.here.within c.requires.kept (c.in-Some.ensures.sums c.in-Some.s refl) _ _ _ c.sort_of.result (c.sort_of.ensures ∙ ap sort_of c.kind-k.ensures.0) refl refl refl, λ keeps. refl)
