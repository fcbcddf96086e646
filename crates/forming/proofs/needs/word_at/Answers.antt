use mathlib.Core.Path.{sym, ◌∙◌}
use native.Mathlib.Omega.{arith}
use Rattle.matching.proofs.Records.{name_field}
use Rattle.forming.proofs.Settling.{name_is}
use Rattle.forming.proofs.Needing.{word_told}
use Rattle.forming.proofs.needs.word_at.Goals as goal

pub field-requires : goal.field-requires
field-requires c = name_field _ _ c.requires (sym c.kind.ensures.0 ∙ c.if-kind-ne-NAME_PATTERN.false)

pub bounds-found-field : goal.bounds-found-field
bounds-found-field c =
    omega (arith, (name_is _ _ c.requires (sym c.kind.ensures.0 ∙ c.if-kind-ne-NAME_PATTERN.false) _ c.field.ensures.0).0)

pub returns-else-word-eq0 : goal.returns-else-word-eq0
returns-else-word-eq0 c =
    let n = name_is _ _ c.requires (sym c.kind.ensures.0 ∙ c.if-kind-ne-NAME_PATTERN.false) _ c.field.ensures.0 in
    word_told _ _ _ _ n.0 n.1 c.if-word-eq0.false
