-- By number, by sort, by mark.
use mathlib.Core.Path.{sym, ◌∙◌}
use native.Mathlib.Omega.{arith}
use borrow.Author.Tests.{le-leb, not-true, not-false}
use Rattle.prelude.proofs.Absurd.{true_false}
use Rattle.tables.specs.Accepted.{records}
use Rattle.checking.proofs.Marks.{bad_high, bad_sort, bad_named, sort_is}
use Rattle.checking.proofs.naming.is_bad.Goals as goal
use Rattle.checking.proofs.naming.is_bad.Goals.{then-r-n, else-r-n}

pub returns-then-not-is_of_sort : goal.returns-then-not-is_of_sort
returns-then-not-is_of_sort c =
    let rs = records c.args.sheet.now in
    c.if-not-is_of_sort.true
    ∙ elim c.if-r-n.branch [
      | then-r-n w ↦ bad_high rs c.args.r c.args.i c.operand-n.result c.operand-n.ensures.0 w.if-r-n.true
      | else-r-n w ↦ bad_sort rs c.args.r c.args.i c.operand-n.result c.operand-n.ensures.0 w.if-r-n.false
          (sort_is rs c.args.r c.args.i c.operand-n.result w.role.result w.kind.result w.is_of_sort.result w.role.ensures w.kind.ensures.0 w.is_of_sort.ensures ∙ not-true w.is_of_sort.result (sym w.value-is ∙ c.if-not-is_of_sort.true))
    ]

pub returns-else-not-is_of_sort : goal.returns-else-not-is_of_sort
returns-else-not-is_of_sort c =
    let rs = records c.args.sheet.now in
    elim c.if-r-n.branch [
      | then-r-n w ↦ true_false (sym (le-leb c.args.r c.operand-n.result w.if-r-n.true) ∙ sym w.value-is ∙ c.if-not-is_of_sort.false)
      | else-r-n w ↦ c.requires.marked.is c.operand-n.result (omega (arith, w.if-r-n.false, c.requires.operand.here.within, c.requires.operand.here.few)) ∙ bad_named rs c.args.r c.args.i c.operand-n.result c.operand-n.ensures.0 w.if-r-n.false
          (sort_is rs c.args.r c.args.i c.operand-n.result w.role.result w.kind.result w.is_of_sort.result w.role.ensures w.kind.ensures.0 w.is_of_sort.ensures ∙ not-false w.is_of_sort.result (sym w.value-is ∙ c.if-not-is_of_sort.false))
    ]
