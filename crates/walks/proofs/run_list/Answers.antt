-- One run, settled.
use native.Mathlib.Omega.{arith}
use Rattle.walks.proofs.Settling.{comes_sound}
use Rattle.walks.proofs.Stepping.{told_run, count_some, count_few}
use Rattle.walks.proofs.run_list.Goals as goal

pub overflow_sub-count : goal.overflow_sub-count
overflow_sub-count c = omega (arith, count_some c.args.sheet.now c.args.count c.args.s.now c.requires.0)

pub settle-requires : goal.settle-requires
settle-requires c = (comes_sound c.run_sheet-o.ensures, count_few c.args.sheet.now c.args.count c.args.s.now c.requires.0)

pub returns : goal.returns
returns c =
    told_run c.args.sheet.now c.args.count c.args.s.now c.requires.0 _ _ _ _ _ c.start-run.ensures c.run_sheet-o.ensures _ c.settle.ensures
