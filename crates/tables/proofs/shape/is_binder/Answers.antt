-- Kinds 12 to 20.
use mathlib.Core.Path.{sym, ◌∙◌}
use Rattle.tables.proofs.Laws.Kinds.{binder_kinds}
use Rattle.tables.proofs.shape.is_binder.Goals as goal

pub returns : goal.returns
returns c = c.is_between.ensures ∙ sym (binder_kinds c.args.kind)
