-- Kinds 32 to the last.
use mathlib.Core.Path.{sym, ◌∙◌}
use Rattle.tables.proofs.Laws.Kinds.{pattern_kinds}
use Rattle.tables.proofs.shape.is_pattern.Goals as goal

pub returns : goal.returns
returns c = c.is_between.ensures ∙ sym (pattern_kinds c.args.kind)
