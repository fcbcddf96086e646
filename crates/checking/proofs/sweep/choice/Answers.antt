-- By kind.
use mathlib.Core.Path.{sym, ◌∙◌}
use mathlib.Core.Bool.{true, false}
use Rattle.checking.proofs.Gathering.{choice_let_be, choice_let, choice_none}
use Rattle.checking.proofs.sweep.choice.Goals as goal

pub returns-then-kind-eq-LET_BE : goal.returns-then-kind-eq-LET_BE
returns-then-kind-eq-LET_BE c = choice_let_be c.args.kind c.args.names c.if-kind-eq-LET_BE.true

pub returns-then-kind-ne-LET : goal.returns-then-kind-ne-LET
returns-then-kind-ne-LET c = choice_none c.args.kind c.args.names c.if-kind-eq-LET_BE.false c.if-kind-ne-LET.true

pub returns-then-has : goal.returns-then-has
returns-then-has c = choice_let c.args.kind c.args.names true c.if-kind-ne-LET.false (sym c.if-has.true ∙ c.has.ensures)

pub returns : goal.returns
returns c =
    choice_let c.args.kind c.args.names false c.if-kind-ne-LET.false (sym c.if-has.false ∙ c.has.ensures)
