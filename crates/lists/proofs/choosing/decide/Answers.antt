use mathlib.Core.Path.{refl}
use Rattle.lists.specs.Choosing.{loosely, plainly}
use Rattle.lists.proofs.choosing.decide.Goals as goal

pub returns-then-loose : goal.returns-then-loose
returns-then-loose c = loosely c.if-loose.true c.choose.ensures

pub returns : goal.returns
returns c = plainly c.if-loose.false refl refl
