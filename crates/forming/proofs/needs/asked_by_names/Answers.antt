use native.Mathlib.Omega.{arith}
use Rattle.matching.proofs.Records.{has_operand, operand_readable}
use Rattle.prelude.proofs.Absurd.{impossible}
use Rattle.forming.proofs.Needing.{named_part, names_lack}
use Rattle.forming.proofs.needs.asked_by_names.Goals as goal

pub operand_count-i-end-requires : goal.operand_count-i-end-requires
operand_count-i-end-requires c = c.requires.0.readable.here

pub loop-i-init : goal.loop-i-init
loop-i-init c = tt

pub operand-q-requires : goal.operand-q-requires
operand-q-requires c = has_operand _ _ c.requires.0.readable _ (omega (arith, c.operand_count-i-end.ensures.0))

pub loop-i-preserved : goal.loop-i-preserved
loop-i-preserved c = tt

pub word_at-requires : goal.word_at-requires
word_at-requires c =
    (operand_readable _ _ c.requires.0.readable _ (omega (arith, c.operand_count-i-end.ensures.0)) _ c.operand-q.ensures.0).0

pub has_item-requires : goal.has_item-requires
has_item-requires c =
    (c.requires.0.short, c.requires.1, named_part _ _ _ _ c.requires.0.standing _ c.word_at.ensures _ c.in-Some.is _ c.unpack.ensures)

pub returns-then-not-has_item : goal.returns-then-not-has_item
returns-then-not-has_item c =
    λ e z. names_lack _ _ c.requires.0.readable _ _ _ c.args.c c.requires.2 c.requires.3 _ (omega (arith, c.operand_count-i-end.ensures.0)) _ c.operand-q.ensures.0 _ c.word_at.ensures _ c.in-Some.is _ c.unpack.ensures _ c.has_item.ensures c.if-not-has_item.true

pub returns : goal.returns
returns c = λ e z. impossible cc
