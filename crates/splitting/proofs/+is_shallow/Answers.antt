use native.Mathlib.Omega.{arith}
use Rattle.matching.proofs.Records.{has_operand, operand_readable}
use Rattle.splitting.proofs.Telling.{split_told, shallow_no_split, split_two, shallow_not, shallow_both}
use Rattle.splitting.proofs.+is_shallow.Goals as goal

pub kind-k-requires : goal.kind-k-requires
kind-k-requires t c = c.requires.here

pub has_split-requires : goal.has_split-requires
has_split-requires t c = c.requires

pub returns-then-not-is_split : goal.returns-then-not-is_split
returns-then-not-is_split t c =
    shallow_no_split _ _ c.requires (split_told c.kind-k.ensures.0 c.is_split.ensures c.if-not-is_split.true) _ c.has_split.ensures

pub operand-l-requires : goal.operand-l-requires
operand-l-requires t c =
    has_operand _ _ c.requires 0 (omega (arith, split_two _ _ c.requires (split_told c.kind-k.ensures.0 c.is_split.ensures c.if-not-is_split.false)))

pub is_shallow-requires : goal.is_shallow-requires
is_shallow-requires t c =
    let o = operand_readable _ _ c.requires 0 (omega (arith, split_two _ _ c.requires (split_told c.kind-k.ensures.0 c.is_split.ensures c.if-not-is_split.false))) _ c.operand-l.ensures.0 in (omega (arith, o.1), o.0)

pub returns-else-is_shallow : goal.returns-else-is_shallow
returns-else-is_shallow t c =
    rw c.if-is_shallow.false (shallow_not _ _ c.requires (split_told c.kind-k.ensures.0 c.is_split.ensures c.if-not-is_split.false) _ c.operand-l.ensures.0 _ c.is_shallow.ensures c.if-is_shallow.false)

pub operand-r-requires : goal.operand-r-requires
operand-r-requires t c =
    has_operand _ _ c.requires 1 (omega (arith, split_two _ _ c.requires (split_told c.kind-k.ensures.0 c.is_split.ensures c.if-not-is_split.false)))

pub is_shallow-requires-then-is_shallow : goal.is_shallow-requires-then-is_shallow
is_shallow-requires-then-is_shallow t c =
    let o = operand_readable _ _ c.requires 1 (omega (arith, split_two _ _ c.requires (split_told c.kind-k.ensures.0 c.is_split.ensures c.if-not-is_split.false))) _ c.operand-r.ensures.0 in (omega (arith, o.1), o.0)

pub returns-then-is_shallow : goal.returns-then-is_shallow
returns-then-is_shallow t c =
    shallow_both _ _ c.requires (split_told c.kind-k.ensures.0 c.is_split.ensures c.if-not-is_split.false) _ c.operand-l.ensures.0 _ c.is_shallow.ensures c.if-is_shallow.true _ c.operand-r.ensures.0 _ c.is_shallow-then-is_shallow.ensures
