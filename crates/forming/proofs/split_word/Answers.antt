use mathlib.Core.Path.{refl, sym, ◌∙◌}
use mathlib.Core.Logic.{inr}
use Rattle.patterns.specs.Binding.{is}
use Rattle.forming.proofs.Choosing.{all_units, packed_same}
use Rattle.forming.proofs.split_word.Goals as goal

pub word_of-requires : goal.word_of-requires
word_of-requires c =
    (c.requires.short, (is c.requires.value, inr (c.requires.value, refl, all_units _ _ _ _ c.requires (sym c.is_split.ensures ∙ c.if-not-is_split.false) _ c.unpack-p.ensures c.in-Whole.is _ refl)))

pub returns : goal.returns
returns c =
    packed_same _ _ _ _ c.requires _ (all_units _ _ _ _ c.requires (sym c.is_split.ensures ∙ c.if-not-is_split.false) _ c.unpack-p.ensures c.in-Whole.is _ refl) _ c.word_of.ensures
