use Rattle.bindings.proofs.Windows.{plain_field, plain_lent, plain_opened, first_lent, opened_first}
use Rattle.bindings.proofs.Wildcard.{any_asked, any_opened}
use mathlib.Core.Path.{sym, ◌∙◌}
use Rattle.bindings.proofs.open.Goals as goal

pub field-x-requires : goal.field-x-requires
field-x-requires c = plain_field _ _ c.requires.readable (sym c.kind-kind.ensures.0 ∙ c.if-kind-eq-NAME_PATTERN.true)

pub open_plain-requires : goal.open_plain-requires
open_plain-requires c =
    plain_lent _ _ c.requires.readable (sym c.kind-kind.ensures.0 ∙ c.if-kind-eq-NAME_PATTERN.true) _ c.args.at c.args.whole c.args.to c.requires.lent _ c.field-x.ensures.0

pub returns-then-kind-eq-NAME_PATTERN : goal.returns-then-kind-eq-NAME_PATTERN
returns-then-kind-eq-NAME_PATTERN c =
    plain_opened _ _ c.requires.readable (sym c.kind-kind.ensures.0 ∙ c.if-kind-eq-NAME_PATTERN.true) _ c.args.at c.args.whole c.args.to c.requires.lent _ c.field-x.ensures.0 _ _ c.open_plain.ensures

pub open_any-requires : goal.open_any-requires
open_any-requires c = any_asked _ c.args.at c.args.whole c.args.to c.requires.lent

pub returns-then-kind-eq-ANY_PATTERN : goal.returns-then-kind-eq-ANY_PATTERN
returns-then-kind-eq-ANY_PATTERN c =
    any_opened _ _ c.requires.readable (sym c.kind-kind.ensures.0 ∙ c.if-kind-eq-ANY_PATTERN.true) _ c.args.at c.args.whole c.args.to c.requires.lent _ c.open_any.ensures

pub form_from-requires : goal.form_from-requires
form_from-requires c = record { readable = c.requires.readable; lent_from = first_lent _ _ _ c.args.at c.args.whole c.args.to c.requires.lent }

pub returns : goal.returns
returns c = opened_first _ _ _ _ c.args.at c.args.whole c.args.to _ c.form_from.ensures
