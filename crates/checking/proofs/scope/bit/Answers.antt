-- The product fits.
use Rattle.checking.proofs.Below.{one_bit}
use Rattle.checking.proofs.scope.bit.Goals as goal

pub returns : goal.returns
returns c = one_bit c.args.n c.requires
