-- `split_part`: the number of the split, spread over the mask.
use mathlib.Core.Path.{sym, subst}
use Rattle.parts.specs.Contract.{SplitOf}
use Rattle.parts.proofs.Halving.{split_countable, split_is}
use Rattle.parts.proofs.split_part.Goals as goal

pub mask_of-mask-requires : goal.mask_of-mask-requires
mask_of-mask-requires c = split_countable c.requires

pub spread-left-requires : goal.spread-left-requires
spread-left-requires c = c.mask_of-mask.ensures.low

pub halves_by-requires : goal.halves_by-requires
halves_by-requires c = (c.mask_of-mask.ensures.low, c.spread-left.ensures.low)

pub returns : goal.returns
returns c =
    subst (SplitOf _ _ _) (sym c.halves_by.ensures) (split_is c.requires c.mask_of-mask.ensures c.spread-left.ensures)
