use native.Mathlib.Omega.{arith}
use mathlib.Core.Path.{sym, ◌∙◌}
use Rattle.tables.proofs.Laws.Kinds.{composed_told}
use Rattle.matching.proofs.Records.{has_operand, operand_readable}
use Rattle.forming.proofs.Repeating.{any_here, any_leaf, any_next, any_found, any_none}
use Rattle.forming.proofs.repeats.+holds_any.Goals as goal

pub kind-k-requires : goal.kind-k-requires
kind-k-requires t c = c.requires.here

pub returns-then-k-eq-ANY_PATTERN : goal.returns-then-k-eq-ANY_PATTERN
returns-then-k-eq-ANY_PATTERN t c = any_here _ _ c.requires (sym c.kind-k.ensures.0 ∙ c.if-k-eq-ANY_PATTERN.true)

pub is_composed-requires : goal.is_composed-requires
is_composed-requires t c = c.kind-k.ensures.1

pub returns-then-not-is_composed : goal.returns-then-not-is_composed
returns-then-not-is_composed t c =
    any_leaf _ _ c.requires (λ e. c.if-k-eq-ANY_PATTERN.false (c.kind-k.ensures.0 ∙ e)) (composed_told c.kind-k.ensures.0 c.is_composed.ensures c.if-not-is_composed.true)

pub operand_count-i-end-requires : goal.operand_count-i-end-requires
operand_count-i-end-requires t c = c.requires.here

pub loop-i-init : goal.loop-i-init
loop-i-init t c = λ j l. absurd (omega arith)

pub operand-q-requires : goal.operand-q-requires
operand-q-requires t c = has_operand _ _ c.requires _ (omega (arith, c.operand_count-i-end.ensures.0))

pub holds_any-requires : goal.holds_any-requires
holds_any-requires t c =
    let o = operand_readable _ _ c.requires _ (omega (arith, c.operand_count-i-end.ensures.0)) _ c.operand-q.ensures.0 in (omega (arith, o.1, c.decreases), o.0)

pub returns-then-holds_any : goal.returns-then-holds_any
returns-then-holds_any t c =
    any_found _ _ c.requires (composed_told c.kind-k.ensures.0 c.is_composed.ensures c.if-not-is_composed.false) _ _ (omega (arith, c.operand_count-i-end.ensures.0)) c.operand-q.ensures.0 _ c.holds_any.ensures c.if-holds_any.true

pub loop-i-preserved : goal.loop-i-preserved
loop-i-preserved t c =
    any_next _ _ _ _ c.loop-i.invariant c.operand-q.ensures.0 _ c.holds_any.ensures c.if-holds_any.false

pub returns : goal.returns
returns t c =
    any_none _ _ c.requires (composed_told c.kind-k.ensures.0 c.is_composed.ensures c.if-not-is_composed.false) c.loop-i.i c.loop-i.invariant (omega (arith, c.operand_count-i-end.ensures.0))
