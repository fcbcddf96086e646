use Rattle.bindings.proofs.Telling.{all_start, all_holds, one_held, all_full, all_inside, all_more, all_end}
use native.Mathlib.Omega.{arith}
use Rattle.std.proofs.lemmas.Result.{err_from_is_err_and}
use Rattle.bindings.proofs.forms.form_all.Goals as goal

pub loop-at-init : goal.loop-at-init
loop-at-init c = all_start _ _ _ _ _ _ _ _ c.requires

pub length_of-k-requires : goal.length_of-k-requires
length_of-k-requires c = all_holds _ _ _ _ _ _ _ _ c.requires _ _ _ _ _ c.loop-at.invariant (omega arith)

pub form_one-requires : goal.form_one-requires
form_one-requires c = one_held _ _ _ _ _ _ _ _ c.requires _ _ _ _ _ c.loop-at.invariant (omega arith)

pub overflow_add-at : goal.overflow_add-at
overflow_add-at c =
    let w = all_inside _ _ _ _ _ _ _ _ c.requires _ _ _ _ _ c.loop-at.invariant (omega arith) in omega (arith, c.length_of-k.ensures.is, w.0, w.1)

pub loop-at-smaller : goal.loop-at-smaller
loop-at-smaller c = omega (arith, c.length_of-k.ensures.low)

pub loop-at-preserved : goal.loop-at-preserved
loop-at-preserved c =
    all_more _ _ _ _ _ _ _ _ c.requires _ _ _ _ _ c.loop-at.invariant (omega arith) _ _ _ _ c.form_one.ensures _ c.in_ok-n.was _ c.length_of-k.ensures.is

pub returns : goal.returns
returns c = all_end _ _ _ _ _ _ _ _ c.requires _ _ _ _ _ c.loop-at.invariant (omega arith)

pub returns-in_err-n : goal.returns-in_err-n
returns-in_err-n c =
    let p = err_from_is_err_and c.from_residual.result c.from_residual.ensures.1 in
    rw (p.1, p.2) (all_full _ _ _ _ _ _ _ _ c.requires _ _ _ _ _ c.loop-at.invariant (omega arith) _ _ _ _ c.form_one.ensures _ c.in_err-n.was)
