-- Kinds 1 to 22.
use mathlib.Core.Path.{sym, ◌∙◌}
use Rattle.tables.proofs.Laws.Kinds.{expression_kinds}
use Rattle.tables.proofs.shape.is_expression.Goals as goal

pub returns : goal.returns
returns c = c.is_between.ensures ∙ sym (expression_kinds c.args.kind)
