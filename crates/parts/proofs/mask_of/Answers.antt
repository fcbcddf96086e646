-- `mask_of`: its own mask, or all ones.
use Rattle.parts.proofs.Halving.{countable_held, countable_part, mask_selects, counted_few, mask_full}
use Rattle.parts.proofs.mask_of.Goals as goal

pub returns-in-Units : goal.returns-in-Units
returns-in-Units c = mask_selects c.in-Units.is c.requires

pub kind_of_part-kind-requires : goal.kind_of_part-kind-requires
kind_of_part-kind-requires c = countable_part c.requires

pub count_of_part-n-requires : goal.count_of_part-n-requires
count_of_part-n-requires c = countable_held c.requires

pub full-requires : goal.full-requires
full-requires c = counted_few c.kind_of_part-kind.ensures c.count_of_part-n.ensures c.width.ensures.0 c.requires

pub returns : goal.returns
returns c =
    mask_full c.kind_of_part-kind.ensures c.count_of_part-n.ensures c.width.ensures.0 c.in_default.not-Units c.requires c.full.ensures
