use native.Mathlib.Omega.{arith}
use Rattle.parts.proofs.Laws.{whole_here}
use Rattle.bindings.proofs.Large.{one_held, set_held, members_held, tells_one, tells_all}
use Rattle.bindings.proofs.forms.is_wide.Goals as goal

pub whole_at-value-requires : goal.whole_at-value-requires
whole_at-value-requires c =
    let h = one_held _ _ _ c.if-whole.true c.requires.bindable.0 in omega (arith, h.whole, c.requires.bindable.1)

pub too_large-requires : goal.too_large-requires
too_large-requires c =
    (c.requires.readable, whole_here c.whole_at-value.ensures (one_held _ _ _ c.if-whole.true c.requires.bindable.0), c.requires.bindable.1)

pub returns-then-whole : goal.returns-then-whole
returns-then-whole c = tells_one _ _ _ _ _ _ c.if-whole.true (rw c.whole_at-value.ensures at c.too_large.ensures)

pub length_of-n-requires : goal.length_of-n-requires
length_of-n-requires c = set_held _ _ _ c.if-whole.false c.requires.bindable.0

pub overflow_add-at : goal.overflow_add-at
overflow_add-at c = let h = set_held _ _ _ c.if-whole.false c.requires.bindable.0 in omega (arith, h.low, h.whole)

pub overflow_add-at-2 : goal.overflow_add-at-2
overflow_add-at-2 c =
    let h = set_held _ _ _ c.if-whole.false c.requires.bindable.0 in omega (arith, h.whole, c.length_of-n.ensures.is)

pub any_large-requires : goal.any_large-requires
any_large-requires c =
    record {
      readable = c.requires.readable;
      holds_items = (members_held _ _ _ c.if-whole.false c.requires.bindable.0 _ c.length_of-n.ensures.is, c.requires.bindable.1);
    }

pub returns : goal.returns
returns c = tells_all _ _ _ _ _ _ c.if-whole.false _ c.length_of-n.ensures.is c.any_large.ensures
