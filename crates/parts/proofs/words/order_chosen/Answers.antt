use native.Mathlib.Omega.{arith}
use mathlib.Core.Path.{ap, ◌∙◌}
use Rattle.parts.specs.declared.Part.{Part}
use Rattle.parts.specs.Word.{how_of}
use Rattle.parts.proofs.Masking.{words_held, words_order}
use Rattle.parts.proofs.words.order_chosen.Goals as goal

pub order_units-requires : goal.order_units-requires
order_units-requires c =
    let h = words_held _ _ _ c.requires.0 c.requires.1 (λ e. omega (arith, c.requires.2, e)) (λ e. omega (arith, c.requires.3, e)) _ _ c.unpack-p.ensures c.unpack-q.ensures in (h.0, h.1, ap (λ (p : Part). p.how) c.unpack-p.ensures ∙ ap how_of c.requires.2, ap (λ (p : Part). p.how) c.unpack-q.ensures ∙ ap how_of c.requires.3)

pub returns : goal.returns
returns c =
    words_order _ _ _ c.requires.0 c.requires.1 (λ e. omega (arith, c.requires.2, e)) (λ e. omega (arith, c.requires.3, e)) _ _ c.unpack-p.ensures c.unpack-q.ensures _ c.order_units.ensures
