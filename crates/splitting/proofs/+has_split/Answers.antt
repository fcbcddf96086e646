use native.Mathlib.Omega.{arith}
use Rattle.tables.proofs.Laws.Kinds.{composed_told}
use Rattle.matching.proofs.Records.{has_operand, operand_readable}
use Rattle.splitting.proofs.Telling.{split_told, split_start, split_leaf, split_here, split_found, split_next, split_none}
use Rattle.splitting.proofs.+has_split.Goals as goal

pub kind-k-requires : goal.kind-k-requires
kind-k-requires t c = c.requires.here

pub is_composed-requires : goal.is_composed-requires
is_composed-requires t c = c.kind-k.ensures.1

pub returns-then-not-is_composed : goal.returns-then-not-is_composed
returns-then-not-is_composed t c =
    split_leaf _ _ c.requires (composed_told c.kind-k.ensures.0 c.is_composed.ensures c.if-not-is_composed.true)

pub returns-then-is_split : goal.returns-then-is_split
returns-then-is_split t c =
    split_here _ _ c.requires (composed_told c.kind-k.ensures.0 c.is_composed.ensures c.if-not-is_composed.false) (split_told c.kind-k.ensures.0 c.is_split.ensures c.if-is_split.true)

pub operand_count-i-end-requires : goal.operand_count-i-end-requires
operand_count-i-end-requires t c = c.requires.here

pub loop-i-init : goal.loop-i-init
loop-i-init t c = split_start _ _

pub operand-q-requires : goal.operand-q-requires
operand-q-requires t c = has_operand _ _ c.requires _ (omega (arith, c.operand_count-i-end.ensures.0))

pub has_split-requires : goal.has_split-requires
has_split-requires t c =
    let o = operand_readable _ _ c.requires _ (omega (arith, c.operand_count-i-end.ensures.0)) _ c.operand-q.ensures.0 in (omega (arith, o.1), o.0)

pub returns-then-has_split : goal.returns-then-has_split
returns-then-has_split t c =
    split_found _ _ c.requires (composed_told c.kind-k.ensures.0 c.is_composed.ensures c.if-not-is_composed.false) (split_told c.kind-k.ensures.0 c.is_split.ensures c.if-is_split.false) _ _ (omega (arith, c.operand_count-i-end.ensures.0)) c.operand-q.ensures.0 _ c.has_split.ensures c.if-has_split.true

pub loop-i-preserved : goal.loop-i-preserved
loop-i-preserved t c =
    split_next _ _ _ _ c.loop-i.invariant c.operand-q.ensures.0 _ c.has_split.ensures c.if-has_split.false

pub returns : goal.returns
returns t c =
    split_none _ _ c.requires (composed_told c.kind-k.ensures.0 c.is_composed.ensures c.if-not-is_composed.false) (split_told c.kind-k.ensures.0 c.is_split.ensures c.if-is_split.false) c.loop-i.i c.loop-i.invariant (omega (arith, c.operand_count-i-end.ensures.0))
