use native.Mathlib.Omega.{arith}
use mathlib.Core.Path.{sym}
use Rattle.forming.proofs.Repeating.{agrees_more}
use Rattle.forming.proofs.rows.agrees.Goals as goal
use Rattle.forming.proofs.rows.agrees.Goals.{else-a-ne0-via-then-a-ne0+else-a-rows, else-a-ne0-via-else-a-ne0}

pub loop-x-init : goal.loop-x-init
loop-x-init c = λ y l. absurd (omega arith)

pub returns : goal.returns
returns c = λ e y l f. c.loop-x.invariant y (omega arith) f

pub loop-x-preserved : goal.loop-x-preserved
loop-x-preserved c =
    agrees_more c.args.found.now c.args.rows.now c.args.r _ c.loop-x.invariant (λ f. elim c.else-a-ne0.branch [ else-a-ne0-via-then-a-ne0+else-a-rows w ↦ sym w.if-a-rows.false | else-a-ne0-via-else-a-ne0 w ↦ absurd (f w.if-a-ne0.false) ])
