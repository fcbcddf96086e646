use native.Mathlib.Omega.{arith}
use Rattle.matching.proofs.Placing.{quotient_low, rest_low, placed_first, placed_before, placed_after}
use Rattle.matching.proofs.nodes.+unit_at.Goals as goal

pub nonzero_rem-at : goal.nonzero_rem-at
nonzero_rem-at t c = omega arith

pub returns-then-i-at : goal.returns-then-i-at
returns-then-i-at t c = placed_first _ _ _ (omega arith) c.requires.1 c.if-i-at.true

pub overflow_sub-n : goal.overflow_sub-n
overflow_sub-n t c = omega arith

pub nonzero_div-d : goal.nonzero_div-d
nonzero_div-d t c = omega arith

pub unit_at-requires : goal.unit_at-requires
unit_at-requires t c =
    let pre = c.requires.1 in
    (omega arith, (omega arith, quotient_low _ _ (omega arith) pre, omega (arith, c.if-i-at-2.true, rest_low c.args.n c.args.d (omega arith))))

pub overflow_add-result : goal.overflow_add-result
overflow_add-result t c = omega (arith, c.unit_at.ensures.below)

pub returns-then-i-at-2 : goal.returns-then-i-at-2
returns-then-i-at-2 t c = placed_before _ _ _ (omega arith) c.requires.1 _ c.if-i-at-2.true c.unit_at.ensures

pub overflow_sub-n-2 : goal.overflow_sub-n-2
overflow_sub-n-2 t c = omega arith

pub nonzero_div-d-2 : goal.nonzero_div-d-2
nonzero_div-d-2 t c = omega arith

pub overflow_sub-i : goal.overflow_sub-i
overflow_sub-i t c = omega arith

pub unit_at-requires-2 : goal.unit_at-requires-2
unit_at-requires-2 t c =
    let pre = c.requires.1 in
    (omega arith, (omega arith, quotient_low _ _ (omega arith) pre, omega arith))

pub overflow_add-result-2 : goal.overflow_add-result-2
overflow_add-result-2 t c = omega (arith, c.unit_at-2.ensures.below)

pub returns : goal.returns
returns t c = placed_after _ _ _ (omega arith) c.requires.1 _ (omega arith) c.unit_at-2.ensures
