-- The list is copied behind the numbers, and zeros follow it.
use mathlib.Core.Path.{refl}
use Rattle.lists.proofs.Starting.{made_start}
use Rattle.lists.proofs.start.Goals as goal

pub returns : goal.returns
returns c = made_start c.args.list.now c.requires c.args.grow c.from.result c.copy_from_slice.new.self _ c.from.ensures c.copy_from_slice.ensures.after refl
