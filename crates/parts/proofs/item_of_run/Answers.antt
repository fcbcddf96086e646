-- `item_of_run`: where the run stands after k items.
use mathlib.Core.Path.{sym, subst}
use Rattle.parts.specs.Contract.{ItemOfPart}
use Rattle.parts.proofs.Parting.{item_skip, item_place, item-is}
use Rattle.parts.proofs.item_of_run.Goals as goal

pub skip-r-requires : goal.skip-r-requires
skip-r-requires c = item_skip c.requires.held c.requires.run

pub whole_at-requires : goal.whole_at-requires
whole_at-requires c = item_place c.requires.held c.requires.run c.skip-r.ensures

pub returns : goal.returns
returns c = λ p h o. subst (ItemOfPart _ p _) (sym c.whole_at.ensures) (item-is h o c.skip-r.ensures)
