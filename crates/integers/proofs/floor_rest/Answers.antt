-- `integers::floor_rest` meets its contract, by its tests of the machine's rest and of the divisor.
use mir.Facts.{to_z-of_z}
use Rattle.integers.proofs.Machine.{read, other_zero}
use Rattle.integers.proofs.Rest.{neg-neg, neg_pos, pos_pos, pos_neg, no_rest, more_fits, as_it_is, with_right}
use Rattle.integers.proofs.floor_rest.Goals as goal

pub wrapping_rem-rest-requires : goal.wrapping_rem-rest-requires
wrapping_rem-rest-requires c = rw (to_z-of_z c.ranges.right) (other_zero c.ranges.right c.requires)

pub returns-then-right-lt0 : goal.returns-then-right-lt0
returns-then-right-lt0 c =
    let s = c in
    as_it_is s.ranges.left s.ranges.right s.requires s.wrapping_rem-rest.ensures (neg-neg _ _ c.if-rest-lt0.true c.if-right-lt0.true)

pub overflow_add-result : goal.overflow_add-result
overflow_add-result c =
    let s = c in
    more_fits s.ranges.left s.ranges.right s.requires s.wrapping_rem-rest.ensures (neg_pos (read s.wrapping_rem-rest.result) (read s.args.right) c.if-rest-lt0.true c.if-right-lt0.false)

pub returns-then-rest-lt0 : goal.returns-then-rest-lt0
returns-then-rest-lt0 c =
    let s = c in
    with_right s.ranges.left s.ranges.right s.requires s.wrapping_rem-rest.ensures (neg_pos (read s.wrapping_rem-rest.result) (read s.args.right) c.if-rest-lt0.true c.if-right-lt0.false)

pub returns-then-right-gt0 : goal.returns-then-right-gt0
returns-then-right-gt0 c =
    let s = c in
    as_it_is s.ranges.left s.ranges.right s.requires s.wrapping_rem-rest.ensures (pos_pos _ _ c.if-rest-gt0.true c.if-right-gt0.true)

pub overflow_add-result-then-rest-gt0 : goal.overflow_add-result-then-rest-gt0
overflow_add-result-then-rest-gt0 c =
    let s = c in
    more_fits s.ranges.left s.ranges.right s.requires s.wrapping_rem-rest.ensures (pos_neg (read s.wrapping_rem-rest.result) (read s.args.right) c.if-rest-gt0.true c.if-right-gt0.false)

pub returns-then-rest-gt0 : goal.returns-then-rest-gt0
returns-then-rest-gt0 c =
    let s = c in
    with_right s.ranges.left s.ranges.right s.requires s.wrapping_rem-rest.ensures (pos_neg (read s.wrapping_rem-rest.result) (read s.args.right) c.if-rest-gt0.true c.if-right-gt0.false)

pub returns : goal.returns
returns c =
    let s = c in
    as_it_is s.ranges.left s.ranges.right s.requires s.wrapping_rem-rest.ensures (no_rest _ _ c.if-rest-lt0.false c.if-rest-gt0.false)
