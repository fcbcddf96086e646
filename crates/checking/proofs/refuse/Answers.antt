-- The rules one after the other: one of the last two is broken where the first is not.
use mathlib.Core.Path.{sym, ◌∙◌}
use Rattle.tables.specs.Accepted.{records}
use Rattle.checking.proofs.Verdict.{clear_all, refused6, some_broken, refused_scope}
use Rattle.checking.proofs.refuse.Goals as goal

pub returns-in-Some : goal.returns-in-Some
returns-in-Some c = refused6 (records c.args.sheet.now) c.args.count c.requires.0.all c.in-Some.place c.in-Some.ensures

pub scope_fault-requires : goal.scope_fault-requires
scope_fault-requires c = record { whole = c.requires.0; clear = clear_all (records c.args.sheet.now) c.args.count c.requires.0.all c.in_default.ensures }

pub unwrap-requires : goal.unwrap-requires
unwrap-requires c =
    rw c.scope_fault.ensures (some_broken (records c.args.sheet.now) c.args.count c.requires.0.all c.in_default.ensures c.requires.2)

pub returns : goal.returns
returns c =
    refused_scope (records c.args.sheet.now) c.args.count c.requires.0.all c.in_default.ensures c.requires.2 c.unwrap.result (sym c.scope_fault.ensures ∙ c.unwrap.ensures)
