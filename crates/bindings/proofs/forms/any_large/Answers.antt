use native.Mathlib.Omega.{arith}
use Rattle.parts.proofs.Laws.{whole_here}
use Rattle.bindings.proofs.Large.{passing_start, passing_holds, passing_inside, one_large, passing_more, none_large}
use Rattle.bindings.proofs.forms.any_large.Goals as goal

pub loop-at-init : goal.loop-at-init
loop-at-init c = passing_start _ _ _ _ _

pub length_of-n-requires : goal.length_of-n-requires
length_of-n-requires c = passing_holds _ _ _ _ _ _ c.loop-at.invariant c.requires.holds_items.0 (omega arith)

pub whole_at-member-requires : goal.whole_at-member-requires
whole_at-member-requires c =
    let h = passing_holds _ _ _ _ _ _ c.loop-at.invariant c.requires.holds_items.0 (omega arith) in omega (arith, h.whole, c.requires.holds_items.1)

pub too_large-requires : goal.too_large-requires
too_large-requires c =
    let h = passing_holds _ _ _ _ _ _ c.loop-at.invariant c.requires.holds_items.0 (omega arith) in (c.requires.readable, whole_here c.whole_at-member.ensures h, c.requires.holds_items.1)

pub returns-then-too_large : goal.returns-then-too_large
returns-then-too_large c =
    one_large _ _ _ _ _ _ c.loop-at.invariant (omega arith) _ (rw c.whole_at-member.ensures at c.too_large.ensures) c.if-too_large.true

pub overflow_add-at : goal.overflow_add-at
overflow_add-at c =
    let w = passing_inside _ _ _ _ _ _ c.loop-at.invariant c.requires.holds_items.0 (omega arith) in
    omega (arith, c.length_of-n.ensures.is, w.0, w.1)

pub loop-at-smaller : goal.loop-at-smaller
loop-at-smaller c = omega (arith, c.length_of-n.ensures.low)

pub loop-at-preserved : goal.loop-at-preserved
loop-at-preserved c =
    passing_more _ _ _ _ _ _ c.loop-at.invariant (omega arith) _ (rw c.whole_at-member.ensures at c.too_large.ensures) c.if-too_large.false _ c.length_of-n.ensures.is

pub returns : goal.returns
returns c = none_large _ _ _ _ _ _ c.loop-at.invariant (omega arith)
