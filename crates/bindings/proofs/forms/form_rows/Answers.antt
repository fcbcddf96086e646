use Rattle.bindings.proofs.Telling.{form_wide, value_held, value_told, members_held, members_told}
use Rattle.bindings.proofs.Large.{set_held}
use mathlib.Core.Path.{refl}
use native.Mathlib.Omega.{arith}
use Rattle.bindings.proofs.forms.form_rows.Goals as goal

pub is_wide-requires : goal.is_wide-requires
is_wide-requires c = record { readable = c.requires.readable; bindable = (c.requires.bindable.0, c.requires.bindable.1) }

pub returns-then-is_wide : goal.returns-then-is_wide
returns-then-is_wide c = form_wide _ _ _ c.args.at c.args.whole _ c.is_wide.ensures c.if-is_wide.true _ _

pub form_one-requires : goal.form_one-requires
form_one-requires c =
    value_held _ _ _ _ _ _ c.is_wide.ensures c.if-is_wide.false c.if-whole.true c.requires.bindable.0 _ _ _ c.requires.readable c.requires.bindable.1 refl c.requires.bindable.2 c.requires.bindable.3

pub returns-then-whole : goal.returns-then-whole
returns-then-whole c =
    value_told _ _ _ _ _ _ c.is_wide.ensures c.if-is_wide.false c.if-whole.true _ _ _ _ _ _ _ c.requires.bindable.2 c.requires.bindable.3 c.form_one.ensures

pub length_of-n-requires : goal.length_of-n-requires
length_of-n-requires c = set_held _ _ _ c.if-whole.false c.requires.bindable.0

pub overflow_add-at : goal.overflow_add-at
overflow_add-at c = let h = set_held _ _ _ c.if-whole.false c.requires.bindable.0 in omega (arith, h.low, h.whole)

pub overflow_add-at-2 : goal.overflow_add-at-2
overflow_add-at-2 c =
    let h = set_held _ _ _ c.if-whole.false c.requires.bindable.0 in omega (arith, h.whole, c.length_of-n.ensures.is)

pub form_all-requires : goal.form_all-requires
form_all-requires c =
    members_held _ _ _ _ _ _ c.is_wide.ensures c.if-is_wide.false c.if-whole.false c.requires.bindable.0 _ c.length_of-n.ensures.is _ _ _ c.requires.readable c.requires.bindable.1 refl c.requires.bindable.2 c.requires.bindable.3

pub returns : goal.returns
returns c =
    members_told _ _ _ _ _ _ c.is_wide.ensures c.if-is_wide.false c.if-whole.false _ c.length_of-n.ensures.is _ _ _ c.form_all.ensures
