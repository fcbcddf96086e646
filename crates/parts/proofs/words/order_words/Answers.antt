use Rattle.parts.proofs.Masking.{words_same, words_lower, words_higher, words_held, words_order}
use native.Mathlib.Omega.{arith}
use Rattle.parts.proofs.words.order_words.Goals as goal

pub returns-then-a-b : goal.returns-then-a-b
returns-then-a-b c = words_same _ _ _ c.if-a-b.true

pub returns-then-a-eq0 : goal.returns-then-a-eq0
returns-then-a-eq0 c =
    words_lower _ _ _ c.requires.0 c.requires.1 c.if-a-eq0.true (λ z. omega (arith, c.if-a-b.false, c.if-a-eq0.true))

pub returns-then-b-eq0 : goal.returns-then-b-eq0
returns-then-b-eq0 c = words_higher _ _ _ c.requires.0 c.requires.1 c.if-a-eq0.false c.if-b-eq0.true

pub order_parts-requires : goal.order_parts-requires
order_parts-requires c =
    words_held _ _ _ c.requires.0 c.requires.1 c.if-a-eq0.false c.if-b-eq0.false _ _ c.unpack-p.ensures c.unpack-q.ensures

pub returns : goal.returns
returns c =
    words_order _ _ _ c.requires.0 c.requires.1 c.if-a-eq0.false c.if-b-eq0.false _ _ c.unpack-p.ensures c.unpack-q.ensures _ c.order_parts.ensures
