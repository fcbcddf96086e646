use native.Mathlib.Omega.{arith}
use Rattle.parts.proofs.Doubling.{width_two, width_one}
use Rattle.parts.proofs.masks.width.Goals as goal

pub returns-then-kind-eq-MAP : goal.returns-then-kind-eq-MAP
returns-then-kind-eq-MAP c = (width_two _ c.if-kind-eq-MAP.true, omega arith, omega arith)

pub returns : goal.returns
returns c = (width_one _ c.if-kind-eq-MAP.false, omega arith, omega arith)
