-- Test by test.
use mathlib.Core.Path.{sym, ◌∙◌}
use lib.ListN.{get_or}
use borrow.Author.Tests.{ltb-true, lt-ltb, ne_eqb}
use Rattle.prelude.proofs.Absurd.{never}
use Rattle.checking.proofs.sweep.is_closed.Goals as goal
use Rattle.checking.proofs.sweep.is_closed.Goals.{then-left-last-eq-EXPRESSION, else-left-last-eq-EXPRESSION}

pub returns-then-frees-last-lt-FIRST_NAME : goal.returns-then-frees-last-lt-FIRST_NAME
returns-then-frees-last-lt-FIRST_NAME c = (
  λ e. elim c.if-left-last-eq-EXPRESSION.branch [
    | then-left-last-eq-EXPRESSION w ↦ record { one = w.if-left-last-eq-EXPRESSION.true; none = c.is_none_left.ensures.0 e; shut = ltb-true (get_or c.args.frees.now c.args.last 0) 4 (sym w.value-is ∙ c.if-frees-last-lt-FIRST_NAME.true) }
    | else-left-last-eq-EXPRESSION w ↦ never (sym (ne_eqb (get_or c.args.left.now c.args.last 0) 1 w.if-left-last-eq-EXPRESSION.false) ∙ sym w.value-is ∙ c.if-frees-last-lt-FIRST_NAME.true)
  ],
  λ o. c.is_none_left.ensures.1 o.none,
)

pub returns-else-frees-last-lt-FIRST_NAME : goal.returns-else-frees-last-lt-FIRST_NAME
returns-else-frees-last-lt-FIRST_NAME c = (
  λ e. never (sym c.if-frees-last-lt-FIRST_NAME.false ∙ e),
  λ o. elim c.if-left-last-eq-EXPRESSION.branch [
    | then-left-last-eq-EXPRESSION w ↦ w.value-is ∙ lt-ltb (get_or c.args.frees.now c.args.last 0) 4 o.shut
    | else-left-last-eq-EXPRESSION w ↦ absurd (w.if-left-last-eq-EXPRESSION.false o.one)
  ],
)
