-- By the kind's sort, and whether it binds.
use mathlib.Core.Path.{sym, ◌∙◌}
use Rattle.tables.proofs.Laws.Roles.{role_by_lem}
use Rattle.tables.proofs.shape.role_of.Goals as goal

pub returns-then-is_pattern : goal.returns-then-is_pattern
returns-then-is_pattern c =
    sym (role_by_lem c.args.kind c.args.i c.requires.0 c.requires.1 ∙ rw (sym c.is_pattern.ensures ∙ c.if-is_pattern.true))

pub returns-then-is_binder : goal.returns-then-is_binder
returns-then-is_binder c =
    c.binder_role.ensures ∙ sym (role_by_lem c.args.kind c.args.i c.requires.0 c.requires.1 ∙ rw (sym c.is_pattern.ensures ∙ c.if-is_pattern.false, sym c.is_binder.ensures ∙ c.if-is_binder.true))

pub returns : goal.returns
returns c =
    sym (role_by_lem c.args.kind c.args.i c.requires.0 c.requires.1 ∙ rw (sym c.is_pattern.ensures ∙ c.if-is_pattern.false, sym c.is_binder.ensures ∙ c.if-is_binder.false))
