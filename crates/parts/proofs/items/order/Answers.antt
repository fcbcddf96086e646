-- `order` of items: what is left to compare says what all of them say.
use native.Mathlib.Omega.{arith}
use Rattle.parts.proofs.Ordering.{choices_start, choices_held, choice_first, choices_same, choices_lower, choices_higher, skip_first, skip_second, choices_settled, choices_more, same_size}
use Rattle.parts.proofs.items.order.Goals as goal

pub loop-m-init : goal.loop-m-init
loop-m-init c = choices_start _ _ _ _ _

pub returns-then-n-eq0 : goal.returns-then-n-eq0
returns-then-n-eq0 c = choices_higher c.loop-m.invariant c.loop-m-test.true c.if-n-eq0.true

pub length_of-i-requires : goal.length_of-i-requires
length_of-i-requires c = choice_first (choices_held c.loop-m.invariant c.requires.0 c.requires.1).0 c.loop-m-test.true

pub overflow_add-i : goal.overflow_add-i
overflow_add-i c =
    let h = choice_first (choices_held c.loop-m.invariant c.requires.0 c.requires.1).0 c.loop-m-test.true in omega (arith, h.whole, c.length_of-i.ensures.is)

pub loop-m-smaller-then-m-eq0 : goal.loop-m-smaller-then-m-eq0
loop-m-smaller-then-m-eq0 c = omega (arith, c.loop-m-test.true)

pub loop-m-preserved-then-m-eq0 : goal.loop-m-preserved-then-m-eq0
loop-m-preserved-then-m-eq0 c = skip_first c.loop-m.invariant c.loop-m-test.true c.if-m-eq0.true _ c.length_of-i.ensures.is

pub length_of-j-requires : goal.length_of-j-requires
length_of-j-requires c = choice_first (choices_held c.loop-m.invariant c.requires.0 c.requires.1).1 c.if-n-eq0.false

pub overflow_add-j : goal.overflow_add-j
overflow_add-j c =
    let h = choice_first (choices_held c.loop-m.invariant c.requires.0 c.requires.1).1 c.if-n-eq0.false in omega (arith, h.whole, c.length_of-j.ensures.is)

pub loop-m-smaller-then-n-eq0-2 : goal.loop-m-smaller-then-n-eq0-2
loop-m-smaller-then-n-eq0-2 c = omega (arith, c.if-n-eq0.false)

pub loop-m-preserved-then-n-eq0-2 : goal.loop-m-preserved-then-n-eq0-2
loop-m-preserved-then-n-eq0-2 c =
    skip_second c.loop-m.invariant c.loop-m-test.true c.if-n-eq0.false c.if-n-eq0-2.true _ c.length_of-j.ensures.is

pub compare-o-requires : goal.compare-o-requires
compare-o-requires c =
    let h = choices_held c.loop-m.invariant c.requires.0 c.requires.1 in (choice_first h.0 c.loop-m-test.true, choice_first h.1 c.if-n-eq0.false)

pub returns-in_default : goal.returns-in_default
returns-in_default c =
    choices_settled c.loop-m.invariant c.loop-m-test.true c.if-n-eq0.false (omega (arith, c.if-m-eq0.false)) (omega (arith, c.if-n-eq0-2.false)) _ c.compare-o.ensures c.in_default.not-Equal

pub length_of-k-requires : goal.length_of-k-requires
length_of-k-requires c = choice_first (choices_held c.loop-m.invariant c.requires.0 c.requires.1).0 c.loop-m-test.true

pub overflow_add-i-in-loop-m : goal.overflow_add-i-in-loop-m
overflow_add-i-in-loop-m c =
    let h = choice_first (choices_held c.loop-m.invariant c.requires.0 c.requires.1).0 c.loop-m-test.true in omega (arith, h.whole, c.length_of-k.ensures.is)

pub overflow_add-j-in-loop-m : goal.overflow_add-j-in-loop-m
overflow_add-j-in-loop-m c =
    let x = choices_held c.loop-m.invariant c.requires.0 c.requires.1 in let h = choice_first x.1 c.if-n-eq0.false in omega (arith, h.whole, c.length_of-k.ensures.is, same_size c.loop-m.invariant c.loop-m-test.true c.if-n-eq0.false (omega (arith, c.if-m-eq0.false)) (omega (arith, c.if-n-eq0-2.false)) _ c.compare-o.ensures c.in-Equal.is x.0 x.1)

pub loop-m-smaller : goal.loop-m-smaller
loop-m-smaller c = omega (arith, c.loop-m-test.true, c.if-n-eq0.false)

pub loop-m-preserved : goal.loop-m-preserved
loop-m-preserved c =
    choices_more c.loop-m.invariant c.loop-m-test.true c.if-n-eq0.false (omega (arith, c.if-m-eq0.false)) (omega (arith, c.if-n-eq0-2.false)) _ c.compare-o.ensures c.in-Equal.is _ c.length_of-k.ensures.is

pub returns-then-n-eq0-3 : goal.returns-then-n-eq0-3
returns-then-n-eq0-3 c = choices_same c.loop-m.invariant c.loop-m-test.false c.if-n-eq0-3.true

pub returns : goal.returns
returns c = choices_lower c.loop-m.invariant c.loop-m-test.false c.if-n-eq0-3.false
