-- One run that grows.
use mathlib.Core.Path.{subst}
use mathlib.Core.Bool.{true}
use mathlib.Core.List.{List}
use Prim.Native.Nat.{ℕ}
use Rattle.choices.specs.State.{Made}
use Rattle.lists.specs.Lent.{lent}
use Rattle.walks.proofs.Settling.{comes_sound, arrived}
use Rattle.walks.proofs.Stepping.{runnable_empty, empty_list, first_lists}
use Rattle.walks.proofs.first_walk.Goals as goal

pub start_walk-run-requires : goal.start_walk-run-requires
start_walk-run-requires c = runnable_empty c.empty.result c.empty.ensures

pub list_of-requires : goal.list_of-requires
list_of-requires c = comes_sound c.run_sheet.ensures

pub returns : goal.returns
returns c =
    first_lists c.args.sheet.now (lent c.start_walk-run.result) c.run_sheet.result (lent c.run_sheet.new.run) c.run_sheet.new.s (arrived c.args.sheet.now (lent c.start_walk-run.result) c.run_sheet.result (lent c.run_sheet.new.run) c.run_sheet.new.s c.run_sheet.ensures) c.list_of.result c.list_of.ensures.entries c.list_of.ensures.len (subst (λ (l : List ℕ). Made l true (lent c.start_walk-run.result)) (empty_list c.empty.result c.empty.ensures) c.start_walk-run.ensures)
