use Rattle.matching.proofs.Naming.{grown_same, grown_set, binds, word_held, part_word, agrees, clashes}
use mathlib.Core.Path.{refl, sym, subst, ◌∙◌}
use Rattle.parts.proofs.Laws.{is_equal, not_equal}
use Rattle.matching.specs.Leaf.{Named}
use Rattle.prelude.proofs.Truth.{by_test}
use Rattle.matching.proofs.leaves.bind_name.Goals as goal

pub returns-then-old-eq0 : goal.returns-then-old-eq0
returns-then-old-eq0 c = (binds _ _ c.requires.0 _ _ c.if-old-eq0.true _ refl, grown_set _ _ _ c.if-old-eq0.true)

pub order_words-requires : goal.order_words-requires
order_words-requires c = (word_held _ _ c.requires.0 c.args.word _ c.requires.2, part_word _ _ c.requires.1)

pub returns : goal.returns
returns c =
    let f = c.args.found.now in
    let known : Named c.args.s.now c.args.x c.args.word f f c.eq.result =
    by_test c.eq.result (λ e. subst (Named c.args.s.now c.args.x c.args.word f f) (sym e) (agrees _ _ c.requires.0 _ _ c.if-old-eq0.false _ c.order_words.ensures (is_equal _ (sym c.eq.ensures ∙ e))))
    (λ e. subst (Named c.args.s.now c.args.x c.args.word f f) (sym e) (clashes _ _ c.requires.0 _ _ c.if-old-eq0.false _ c.order_words.ensures (not_equal _ (sym c.eq.ensures ∙ e)))) in
    (known, grown_same _)
