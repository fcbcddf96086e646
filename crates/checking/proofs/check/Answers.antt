-- Rules 3 to 5, then the others.
use Rattle.std.proofs.lemmas.Result.{err_from_is_err_and}
use mathlib.Core.Path.{sym, ap, ◌∙◌}
use mathlib.Core.Logic.{inl, inr}
use borrow.Author.Tests.{eqb-true, eqb-false}
use lib.ListN.{length}
use Rattle.tables.specs.Check.{judged}
use Rattle.tables.specs.Accepted.{records}
use mathlib.Core.List.{List}
use Prim.Native.Nat.{ℕ}
use Rattle.checking.proofs.Verdict.{indexed, size_checks, unfit_checks, many_checks, some_record, whole_table, judged_checks}
use Rattle.checking.proofs.check.Goals as goal
use Rattle.checking.proofs.check.Goals.{then-is_empty-via-then-is_empty, then-is_empty-via-else-is_empty+then-table-gt-MOST_BYTES}

pub returns-then-is_empty : goal.returns-then-is_empty
returns-then-is_empty c =
    size_checks c.args.table.now c.args.index.now (elim c.then-is_empty.branch [
      | then-is_empty-via-then-is_empty w ↦ inl (eqb-true (length c.args.table.now) 0 (sym c.is_empty.ensures ∙ w.if-is_empty.true))
      | then-is_empty-via-else-is_empty+then-table-gt-MOST_BYTES w ↦ inr w.if-table-gt-MOST_BYTES.true
    ])

pub returns-in_err-count : goal.returns-in_err-count
returns-in_err-count c =
    let p = err_from_is_err_and c.from_residual.result c.from_residual.ensures.1 in
    rw (p.1, p.2) (unfit_checks c.args.table.now (eqb-false (length c.args.table.now) 0 (sym c.is_empty.ensures ∙ c.if-is_empty.false)) c.if-table-gt-MOST_BYTES.false _ c.in_err-count.ensures)

pub returns-then-count-gt-MOST_RECORDS : goal.returns-then-count-gt-MOST_RECORDS
returns-then-count-gt-MOST_RECORDS c = many_checks c.args.table.now (eqb-false (length c.args.table.now) 0 (sym c.is_empty.ensures ∙ c.if-is_empty.false)) c.if-table-gt-MOST_BYTES.false c.in_ok-count.count c.in_ok-count.ensures c.if-count-gt-MOST_RECORDS.true

pub new-requires : goal.new-requires
new-requires c =
    indexed c.args.table.now (eqb-false (length c.args.table.now) 0 (sym c.is_empty.ensures ∙ c.if-is_empty.false)) c.if-table-gt-MOST_BYTES.false c.in_ok-count.count c.in_ok-count.ensures c.if-count-gt-MOST_RECORDS.false

pub judge-requires : goal.judge-requires
judge-requires c =
    rw c.new.ensures (whole_table c.args.table.now (eqb-false (length c.args.table.now) 0 (sym c.is_empty.ensures ∙ c.if-is_empty.false)) c.if-table-gt-MOST_BYTES.false c.in_ok-count.count c.in_ok-count.ensures c.if-count-gt-MOST_RECORDS.false, some_record c.args.table.now (eqb-false (length c.args.table.now) 0 (sym c.is_empty.ensures ∙ c.if-is_empty.false)) c.if-table-gt-MOST_BYTES.false c.in_ok-count.count c.in_ok-count.ensures)

pub returns : goal.returns
returns c =
    judged_checks c.args.table.now (eqb-false (length c.args.table.now) 0 (sym c.is_empty.ensures ∙ c.if-is_empty.false)) c.if-table-gt-MOST_BYTES.false c.in_ok-count.count c.in_ok-count.ensures c.if-count-gt-MOST_RECORDS.false c.judge.result (c.judge.ensures ∙ ap (λ (t : List ℕ). judged (records t)) c.new.ensures)
