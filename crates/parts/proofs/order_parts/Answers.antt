-- `order_parts`: two parts of one sort without their kinds, others by kind first.
use Rattle.parts.proofs.Parting.{whole_held, whole_order}
use Rattle.parts.proofs.order_parts.Goals as goal

pub compare-requires : goal.compare-requires
compare-requires c = (whole_held c.in-Whole-Whole.is-0 c.requires.0, whole_held c.in-Whole-Whole.is-1 c.requires.1)

pub returns-in-Whole-Whole : goal.returns-in-Whole-Whole
returns-in-Whole-Whole c = whole_order c.in-Whole-Whole.is-0 c.in-Whole-Whole.is-1 c.compare.ensures
