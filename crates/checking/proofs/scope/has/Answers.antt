-- As defined.
use Rattle.checking.specs.Scopes.{has_bit}
use mathlib.Core.Path.{refl}
use Rattle.checking.proofs.scope.has.Goals as goal

pub returns : goal.returns
unfolding has_bit
returns c = refl
