use mathlib.Core.Path.{refl}
use native.Mathlib.Omega.{arith}
use Rattle.std.proofs.lemmas.Result.{err_from_is_err_and}
use Rattle.forming.proofs.Returning.{ended}
use Rattle.forming.proofs.finish.Goals as goal

pub loop-r-init : goal.loop-r-init
loop-r-init c = λ t h. h

pub back-requires : goal.back-requires
back-requires c =
    record { some = omega arith; target = _; stacked = (c.loop-r.invariant _ c.requires.1).going _ refl }

pub returns-in_err-r : goal.returns-in_err-r
returns-in_err-r c =
    let p = err_from_is_err_and c.from_residual.result c.from_residual.ensures.1 in
    rw (p.1, p.2) (record { long = (c.in_err-r.ensures.right _ ((c.loop-r.invariant _ c.requires.1).going _ refl)).long; right = λ t h. (c.in_err-r.ensures.right t ((c.loop-r.invariant t h).going _ refl)).full _ refl })

pub loop-r-smaller : goal.loop-r-smaller
loop-r-smaller c = c.in_ok-r.ensures.less _ refl

pub loop-r-preserved : goal.loop-r-preserved
loop-r-preserved c = λ t h. c.in_ok-r.ensures.right t ((c.loop-r.invariant t h).going _ refl)

pub returns : goal.returns
returns c =
    record { long = (c.loop-r.invariant _ c.requires.1).long; right = λ t h. ended _ _ _ _ _ _ _ _ _ _ _ ((c.loop-r.invariant t h).going _ refl) (omega arith) }
