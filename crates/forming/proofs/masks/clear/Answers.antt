use Rattle.forming.proofs.Framing.{clear_start, clear_none, clear_some, clear_end}
use native.Mathlib.Omega.{arith}
use Rattle.forming.proofs.masks.clear.Goals as goal
use Rattle.forming.proofs.masks.clear.Goals.{then-left-eq0, else-left-eq0}

pub loop-x-init : goal.loop-x-init
loop-x-init c = clear_start _ _

pub offset_bounds-found-x : goal.offset_bounds-found-x
offset_bounds-found-x c = omega arith

pub bounds-found-x : goal.bounds-found-x
bounds-found-x c = omega (arith, c.loop-x.invariant.long, c.requires)

pub loop-x-preserved : goal.loop-x-preserved
loop-x-preserved c =
    elim c.if-left-eq0.branch [
      | then-left-eq0 w ↦ rw w.found-is (clear_none _ _ _ _ _ (omega arith) c.loop-x.invariant w.if-left-eq0.true c.requires)
      | else-left-eq0 w ↦ rw w.found-is (clear_some _ _ _ _ _ (omega arith) c.loop-x.invariant w.if-left-eq0.false)
    ]

pub returns : goal.returns
returns c = clear_end _ _ _ _ _ (omega arith) c.loop-x.invariant
