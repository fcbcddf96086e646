-- By sort.
use mathlib.Core.Path.{sym, ◌∙◌}
use Rattle.checking.proofs.sweep.one_role.Goals as goal

pub returns-then-is_pattern : goal.returns-then-is_pattern
returns-then-is_pattern c = rw (sym c.is_pattern.ensures ∙ c.if-is_pattern.true)

pub returns : goal.returns
returns c = rw (sym c.is_pattern.ensures ∙ c.if-is_pattern.false)
