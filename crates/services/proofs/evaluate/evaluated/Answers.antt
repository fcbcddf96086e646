-- Rule 10, or the run.
use mathlib.Core.Path.{refl, sym, ap, ◌∙◌}
use lib.ListN.{length}
use Rattle.meaning.specs.Answer.{pack}
use Rattle.meaning.proofs.Laws.Services.{evaluates_10, evaluates_run}
use Rattle.services.proofs.Calls.{part_long, walkable, evaluated_off, ran_holds, evaluated_value, evaluated_refused}
use Rattle.services.proofs.evaluate.evaluated.Goals as goal

pub returns-then-list-gt-LIMIT : goal.returns-then-list-gt-LIMIT
returns-then-list-gt-LIMIT c =
    λ buffer room. evaluated_off _ c.args.scratch.now 10 0 0 _ (evaluates_10 c.args.sheet.now (length c.args.scratch.now) c.requires.enough _ c.requires.ok buffer c.args.list.now room c.if-list-gt-LIMIT.true) (c.pack.ensures ∙ ap (λ n. pack n 0 0) c.number.ensures)

pub run_list-requires : goal.run_list-requires
run_list-requires c =
    (walkable c.args.sheet.now c.args.scratch.now _ c.requires.ok c.requires.enough, c.if-list-gt-LIMIT.false)

pub read-requires : goal.read-requires
read-requires c =
    ran_holds _ c.args.scratch.now c.args.sheet.now c.args.list.now c.run_list.new.s c.run_list.result refl (c.run_list.auto.s ∙ sym (part_long c.args.scratch.now c.requires.enough)) c.run_list.ensures _ c.in-Ok.is

pub returns-in-Ok : goal.returns-in-Ok
returns-in-Ok c =
    λ buffer room. evaluated_value _ c.args.scratch.now c.args.sheet.now c.args.list.now c.run_list.new.s c.run_list.result (evaluates_run c.args.sheet.now (length c.args.scratch.now) c.requires.enough _ c.requires.ok buffer c.args.list.now room c.if-list-gt-LIMIT.false) (c.run_list.auto.s ∙ sym (part_long c.args.scratch.now c.requires.enough)) c.run_list.ensures _ c.in-Ok.is c.read.result c.read.ensures

pub returns-in-Err : goal.returns-in-Err
returns-in-Err c =
    λ buffer room. evaluated_refused _ c.args.scratch.now c.args.sheet.now c.args.list.now c.run_list.new.s c.run_list.result (evaluates_run c.args.sheet.now (length c.args.scratch.now) c.requires.enough _ c.requires.ok buffer c.args.list.now room c.if-list-gt-LIMIT.false) (c.run_list.auto.s ∙ sym (part_long c.args.scratch.now c.requires.enough)) c.run_list.ensures c.in-Err.e c.in-Err.is c.pack_refused.result c.pack_refused.ensures
