use native.Mathlib.Omega.{arith}
use Rattle.parts.proofs.Choosing.{deals_even, deals_left, deals_right}
use Rattle.parts.proofs.masks.deal.Goals as goal

pub returns-then-m-eq0 : goal.returns-then-m-eq0
returns-then-m-eq0 c = deals_even _ _ c.requires.1 c.if-m-eq0.true

pub returns-then-rest-eq0 : goal.returns-then-rest-eq0
returns-then-rest-eq0 c = deals_left _ _ c.requires.1 (omega (arith, c.if-m-eq0.false)) c.if-rest-eq0.true

pub returns : goal.returns
returns c = deals_right _ _ c.requires.1 (omega (arith, c.if-m-eq0.false)) (omega (arith, c.if-rest-eq0.false))
