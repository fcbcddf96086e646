use native.Mathlib.Omega.{arith}
use Rattle.forming.proofs.repeats.lowest_matched.Goals as goal

pub returns : goal.returns
returns c = omega arith
