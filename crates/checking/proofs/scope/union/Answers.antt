-- As defined.
use Rattle.checking.specs.Scopes.{or_bits}
use mathlib.Core.Path.{refl}
use Rattle.checking.proofs.scope.union.Goals as goal

pub returns : goal.returns
unfolding or_bits
returns c = refl
