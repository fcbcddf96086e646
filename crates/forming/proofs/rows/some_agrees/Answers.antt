use native.Mathlib.Omega.{arith}
use mathlib.Core.Path.{sym}
use Rattle.prelude.proofs.Absurd.{true_false}
use Rattle.forming.proofs.rows.some_agrees.Goals as goal

pub loop-r-init : goal.loop-r-init
loop-r-init c = omega arith

pub agrees-requires : goal.agrees-requires
agrees-requires c = omega (arith, c.requires)

pub returns-then-agrees : goal.returns-then-agrees
returns-then-agrees c =
    λ e. record { row = c.loop-r.r; low = c.loop-r.invariant; high = omega arith; agrees = c.agrees.ensures c.if-agrees.true }

pub loop-r-preserved : goal.loop-r-preserved
loop-r-preserved c = omega (arith, c.loop-r.invariant)

pub returns : goal.returns
returns c = λ e. true_false (sym e)
