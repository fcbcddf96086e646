-- As defined.
use mathlib.Core.Path.{refl}
use Rattle.checking.specs.Sweeps.{apart}
use Rattle.checking.proofs.sweep.is_apart.Goals as goal

pub returns : goal.returns
unfolding apart
returns c = refl
