-- A run that learns the numbers of ways; its refusal, or on to the next list.
use mathlib.Core.Path.{sym, ap, ◌∙◌, ◌≡◌}
use mathlib.Core.Bool.{true}
use native.Mathlib.Omega.{arith}
use Rattle.choices.specs.Listing.{list_held}
use Rattle.lists.specs.Lent.{lent}
use Rattle.walks.proofs.Settling.{comes_sound, is_whole, arrived}
use Rattle.walks.proofs.Stepping.{told_run, count_some, count_few, at-end, complete_ran, steps_other, steps_on}
use Rattle.walks.proofs.next_walk.Goals as goal
use Rattle.walks.proofs.next_walk.Goals.{in-Err+else-not-is_of_sheet, in_default}

pub overflow_sub-count : goal.overflow_sub-count
overflow_sub-count c =
    omega (arith, count_some c.args.sheet.now c.args.count c.args.s.now c.requires.walkable)

pub settle-ran-requires : goal.settle-ran-requires
settle-ran-requires c =
    (comes_sound c.run_sheet-o.ensures, count_few c.args.sheet.now c.args.count c.args.s.now c.requires.walkable)

pub returns-then-not-is_of_sheet : goal.returns-then-not-is_of_sheet
returns-then-not-is_of_sheet c =
    steps_other c.args.sheet.now c.run_sheet-o.new.s c.args.walk c.settle-ran.result (told_run c.args.sheet.now c.args.count c.args.s.now c.requires.walkable _ _ _ _ _ c.start_walk-run.ensures c.run_sheet-o.ensures _ c.settle-ran.ensures) c.requires.runnable c.in-Err.e c.in-Err.is (sym c.is_of_sheet.ensures ∙ c.if-not-is_of_sheet.true) c.pack_outcome.result c.pack_outcome.ensures

pub next_list-requires : goal.next_list-requires
next_list-requires c =
    let whole : is_whole c.settle-ran.result ≡ true =
    elim c.match-ran.branch [
      | in-Err+else-not-is_of_sheet w ↦ ap is_whole w.in-Err.is ∙ sym w.is_of_sheet.ensures ∙ w.if-not-is_of_sheet.false
      | in_default w ↦ ap is_whole w.in_default.is
    ] in
    let full = complete_ran c.args.sheet.now (list_held c.args.walk) c.run_sheet-o.new.s c.settle-ran.result (told_run c.args.sheet.now c.args.count c.args.s.now c.requires.walkable _ _ _ _ _ c.start_walk-run.ensures c.run_sheet-o.ensures _ c.settle-ran.ensures) whole in
    let came = arrived c.args.sheet.now (lent c.start_walk-run.result) c.run_sheet-o.result (lent c.run_sheet-o.new.run) c.run_sheet-o.new.s c.run_sheet-o.ensures in
    let e = at-end c.args.sheet.now (lent c.start_walk-run.result) c.run_sheet-o.result (lent c.run_sheet-o.new.run) c.run_sheet-o.new.s came c.args.walk c.requires.runnable c.start_walk-run.ensures full in (
      record { ok = c.requires.walkable.ok; room = c.run_sheet-o.auto.s ∙ c.requires.walkable.room },
      record { runnable = c.requires.runnable; complete = full; sound = came.came.sound; ended = e.0 },
    )

pub returns : goal.returns
returns c =
    let whole : is_whole c.settle-ran.result ≡ true =
    elim c.match-ran.branch [
      | in-Err+else-not-is_of_sheet w ↦ ap is_whole w.in-Err.is ∙ sym w.is_of_sheet.ensures ∙ w.if-not-is_of_sheet.false
      | in_default w ↦ ap is_whole w.in_default.is
    ] in
    steps_on c.args.sheet.now c.run_sheet-o.new.s c.args.walk c.settle-ran.result (told_run c.args.sheet.now c.args.count c.args.s.now c.requires.walkable _ _ _ _ _ c.start_walk-run.ensures c.run_sheet-o.ensures _ c.settle-ran.ensures) whole c.next_list.result c.next_list.ensures
