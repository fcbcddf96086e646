use native.Mathlib.Omega.{arith}
use Rattle.forming.proofs.Sizing.{units_paired, units_single}
use Rattle.forming.proofs.sizes.units_of.Goals as goal

pub returns-then-k-eq-MUNION_PATTERN : goal.returns-then-k-eq-MUNION_PATTERN
returns-then-k-eq-MUNION_PATTERN c = (omega arith, λ u. units_paired _ _ c.if-k-eq-MUNION_PATTERN.true)

pub returns : goal.returns
returns c = (omega arith, λ u. units_single _ _ c.if-k-eq-MUNION_PATTERN.false u)
