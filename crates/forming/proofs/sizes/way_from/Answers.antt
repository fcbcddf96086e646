use Prim.Native.Nat.{◌+◌}
use native.Mathlib.Omega.{arith}
use lib.Count.{ones-le}
use Rattle.forming.proofs.Sizing.{is_split, even_ways, from_none, from_splits, from_cuts, splits_past, cuts_past}
use Rattle.forming.proofs.sizes.way_from.Goals as goal

pub returns-in_default : goal.returns-in_default
returns-in_default c = from_none c.args.k c.args.w _ c.args.z

pub returns-then-w-d : goal.returns-then-w-d
returns-then-w-d c = from_none c.args.k c.args.w _ c.args.z

pub cut_from-requires : goal.cut_from-requires
cut_from-requires c = (omega arith, omega (arith, c.in-Some-rights.ensures.low))

pub returns-in_default-rights : goal.returns-in_default-rights
returns-in_default-rights c =
    rw c.in-Some.is (cuts_past c.args.k c.args.w (c.requires _ c.in-Some.is) c.in-Some.sizes c.args.d c.if-w-d.false c.if-k-eq-CONCATENATION_PATTERN.true c.in_default-rights.ensures)

pub returns-then-k-eq-CONCATENATION_PATTERN : goal.returns-then-k-eq-CONCATENATION_PATTERN
returns-then-k-eq-CONCATENATION_PATTERN c =
    rw c.in-Some.is (from_cuts c.args.k c.args.w (c.requires _ c.in-Some.is) c.in-Some.sizes c.args.d c.if-w-d.false _ _ c.if-k-eq-CONCATENATION_PATTERN.true c.in-Some-rights.ensures c.cut_from.ensures)

pub overflow_add-last : goal.overflow_add-last
overflow_add-last c =
    omega (arith, even_ways c.args.k c.args.w (c.requires _ c.in-Some.is) (is_split c.args.k (c.requires _ c.in-Some.is).splits c.if-k-eq-CONCATENATION_PATTERN.false))

pub overflow_cast-n : goal.overflow_cast-n
overflow_cast-n c = omega (arith, ones-le 64 (c.args.w + 1) (omega (arith, overflow_add-last c)))

pub returns-in_default-rights-2 : goal.returns-in_default-rights-2
returns-in_default-rights-2 c =
    let u = is_split c.args.k (c.requires _ c.in-Some.is).splits c.if-k-eq-CONCATENATION_PATTERN.false in
    rw c.in-Some.is (splits_past c.args.k c.args.w (c.requires _ c.in-Some.is) c.in-Some.sizes c.args.d c.if-w-d.false u c.in_default-rights-2.ensures)

pub returns : goal.returns
returns c =
    let u = is_split c.args.k (c.requires _ c.in-Some.is).splits c.if-k-eq-CONCATENATION_PATTERN.false in
    rw c.in-Some.is (from_splits c.args.k c.args.w (c.requires _ c.in-Some.is) c.in-Some.sizes c.args.d c.if-w-d.false _ _ u c.in-Some-rights-2.ensures c.split_from.ensures)
