-- One pass and the heights, or the rules one after the other.
use mathlib.Core.Path.{sym, ◌∙◌}
use Rattle.prelude.proofs.Absurd.{never}
use Rattle.tables.specs.Accepted.{records}
use Rattle.checking.proofs.Verdict.{kept_refused, kept_accepted}
use Rattle.checking.proofs.judge.Goals as goal

pub refuse-requires : goal.refuse-requires
refuse-requires c = (c.requires.0, c.requires.1, λ keeps. never (sym c.if-not-sweep.true ∙ c.sweep.ensures.1 keeps))

pub lowest9-requires : goal.lowest9-requires
lowest9-requires c = (record { whole = c.requires.0; clear = (c.sweep.ensures.0 c.if-not-sweep.false).clear6 }, c.requires.1)

pub returns-in-Some : goal.returns-in-Some
returns-in-Some c =
    kept_refused (records c.args.sheet.now) c.args.count c.requires.0.all (c.sweep.ensures.0 c.if-not-sweep.false) c.in-Some.place c.in-Some.ensures

pub returns : goal.returns
returns c =
    kept_accepted (records c.args.sheet.now) c.args.count c.requires.0.all (c.sweep.ensures.0 c.if-not-sweep.false) c.in_default.ensures
