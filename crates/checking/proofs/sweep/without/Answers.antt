-- As defined.
use mathlib.Core.Path.{refl}
use Rattle.checking.specs.Sweeps.{without}
use Rattle.checking.proofs.sweep.without.Goals as goal

pub returns : goal.returns
unfolding without
returns c = refl
