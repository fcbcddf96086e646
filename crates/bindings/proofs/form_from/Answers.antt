use Rattle.bindings.proofs.Windows.{rows_asked, rows_over, cursor_asked, filling_asked, from_low, from_refused, from_told}
use native.Mathlib.Omega.{arith}
use Prim.Native.Nat.{◌-◌}
use mathlib.Core.Path.{refl}
use Rattle.std.proofs.lemmas.Result.{err_from_is_err_and}
use Rattle.bindings.proofs.form_from.Goals as goal

pub form_rows-requires : goal.form_rows-requires
form_rows-requires c =
    let a = rows_asked _ c.args.at c.args.whole c.args.to (c.args.to - 0) (omega arith) (c.requires.lent_from.values, c.requires.lent_from.are) c.requires.lent_from.short in record { readable = c.requires.readable; bindable = (a.0, a.1, refl, refl) }

pub cursor_over-c-requires : goal.cursor_over-c-requires
cursor_over-c-requires c =
    cursor_asked _ _ _ c.args.at c.args.whole c.args.to c.requires.lent_from.room c.requires.lent_from.short _ _ _ (rows_over _ _ _ c.args.at c.args.whole c.args.to (c.args.to - 0) (omega arith) _ _ _ c.form_rows.ensures) _ c.in_ok-n.was (c.requires.lent_from.values, c.requires.lent_from.are) c.args.k

pub fill-requires : goal.fill-requires
fill-requires c =
    filling_asked _ _ _ c.args.at c.args.whole c.args.to c.requires.lent_from.room c.requires.lent_from.short _ _ _ (rows_over _ _ _ c.args.at c.args.whole c.args.to (c.args.to - 0) (omega arith) _ _ _ c.form_rows.ensures) _ c.in_ok-n.was (c.requires.lent_from.values, c.requires.lent_from.are) _ _ c.cursor_over-c.ensures (from_low _ _ _ c.args.at c.args.whole c.args.to c.requires.lent_from.room c.requires.lent_from.short _ _ _ (rows_over _ _ _ c.args.at c.args.whole c.args.to (c.args.to - 0) (omega arith) _ _ _ c.form_rows.ensures) _ c.in_ok-n.was _ c.requires.lent_from)

pub returns-in_err-n : goal.returns-in_err-n
returns-in_err-n c =
    let p = err_from_is_err_and c.from_residual.result c.from_residual.ensures.1 in
    rw (p.1, p.2) (from_refused _ _ _ c.args.at c.args.whole c.args.to c.requires.lent_from.room c.requires.lent_from.short _ _ _ (rows_over _ _ _ c.args.at c.args.whole c.args.to (c.args.to - 0) (omega arith) _ _ _ c.form_rows.ensures) _ _ c.in_err-n.was)

pub returns : goal.returns
returns c =
    from_told _ _ _ c.args.at c.args.whole c.args.to c.requires.lent_from.room c.requires.lent_from.short _ _ _ (rows_over _ _ _ c.args.at c.args.whole c.args.to (c.args.to - 0) (omega arith) _ _ _ c.form_rows.ensures) _ c.in_ok-n.was (c.requires.lent_from.values, c.requires.lent_from.are) _ _ c.cursor_over-c.ensures (from_low _ _ _ c.args.at c.args.whole c.args.to c.requires.lent_from.room c.requires.lent_from.short _ _ _ (rows_over _ _ _ c.args.at c.args.whole c.args.to (c.args.to - 0) (omega arith) _ _ _ c.form_rows.ensures) _ c.in_ok-n.was _ c.requires.lent_from) _ c.fill.ensures
