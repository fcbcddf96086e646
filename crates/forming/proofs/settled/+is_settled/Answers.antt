use mathlib.Core.Path.{sym, ◌∙◌}
use native.Mathlib.Omega.{arith}
use Rattle.tables.proofs.Laws.Kinds.{composed_told}
use Rattle.matching.proofs.Records.{name_field, has_operand, operand_readable}
use Rattle.forming.proofs.Settling.{settled_name, settled_leaf, settled_next, settled_all, settled_no}
use Rattle.forming.proofs.settled.+is_settled.Goals as goal

pub kind-k-requires : goal.kind-k-requires
kind-k-requires t c = c.requires.here

pub field-x-requires : goal.field-x-requires
field-x-requires t c = name_field _ _ c.requires (sym c.kind-k.ensures.0 ∙ c.if-k-eq-NAME_PATTERN.true)

pub returns-then-k-eq-NAME_PATTERN : goal.returns-then-k-eq-NAME_PATTERN
returns-then-k-eq-NAME_PATTERN t c =
    settled_name _ _ c.requires _ (sym c.kind-k.ensures.0 ∙ c.if-k-eq-NAME_PATTERN.true) _ c.field-x.ensures.0 _ c.has_word.ensures

pub is_composed-requires : goal.is_composed-requires
is_composed-requires t c = c.kind-k.ensures.1

pub returns-then-not-is_composed : goal.returns-then-not-is_composed
returns-then-not-is_composed t c =
    settled_leaf _ _ c.requires _ (λ e. c.if-k-eq-NAME_PATTERN.false (c.kind-k.ensures.0 ∙ e)) (composed_told c.kind-k.ensures.0 c.is_composed.ensures c.if-not-is_composed.true)

pub operand_count-i-end-requires : goal.operand_count-i-end-requires
operand_count-i-end-requires t c = c.requires.here

pub loop-i-init : goal.loop-i-init
loop-i-init t c = λ j l. absurd (omega arith)

pub operand-q-requires : goal.operand-q-requires
operand-q-requires t c = has_operand _ _ c.requires _ (omega (arith, c.operand_count-i-end.ensures.0))

pub is_settled-requires : goal.is_settled-requires
is_settled-requires t c =
    let o = operand_readable _ _ c.requires _ (omega (arith, c.operand_count-i-end.ensures.0)) _ c.operand-q.ensures.0 in (omega (arith, o.1, c.decreases), o.0)

pub returns-then-not-is_settled : goal.returns-then-not-is_settled
returns-then-not-is_settled t c = settled_no _ _ _

pub loop-i-preserved : goal.loop-i-preserved
loop-i-preserved t c =
    settled_next _ _ _ _ _ c.loop-i.invariant c.operand-q.ensures.0 _ c.is_settled.ensures c.if-not-is_settled.false

pub returns : goal.returns
returns t c =
    settled_all _ _ c.requires _ (composed_told c.kind-k.ensures.0 c.is_composed.ensures c.if-not-is_composed.false) _ c.loop-i.invariant (omega (arith, c.operand_count-i-end.ensures.0))
