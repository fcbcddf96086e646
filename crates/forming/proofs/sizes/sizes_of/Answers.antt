use native.Mathlib.Omega.{arith}
use Rattle.matching.proofs.Records.{has_operand, operand_readable}
use Rattle.forming.proofs.Reducing.{two_halves}
use Rattle.forming.proofs.Sizing.{no_sizes, sizes_told}
use Rattle.forming.proofs.sizes.sizes_of.Goals as goal

pub operand-l-requires : goal.operand-l-requires
operand-l-requires c =
    has_operand _ _ c.requires.0.readable 0 (omega (arith, two_halves _ _ c.requires.0.readable c.args.k c.requires.0.of_kind (c.splits.ensures c.if-not-splits.false)))

pub size_of-left-requires : goal.size_of-left-requires
size_of-left-requires c =
    ((operand_readable _ _ c.requires.0.readable 0 (omega (arith, two_halves _ _ c.requires.0.readable c.args.k c.requires.0.of_kind (c.splits.ensures c.if-not-splits.false))) _ c.operand-l.ensures.0).0, c.splits.ensures c.if-not-splits.false, c.requires.1)

pub operand-r-requires : goal.operand-r-requires
operand-r-requires c =
    has_operand _ _ c.requires.0.readable 1 (omega (arith, two_halves _ _ c.requires.0.readable c.args.k c.requires.0.of_kind (c.splits.ensures c.if-not-splits.false)))

pub size_of-right-requires : goal.size_of-right-requires
size_of-right-requires c =
    ((operand_readable _ _ c.requires.0.readable 1 (omega (arith, two_halves _ _ c.requires.0.readable c.args.k c.requires.0.of_kind (c.splits.ensures c.if-not-splits.false))) _ c.operand-r.ensures.0).0, c.splits.ensures c.if-not-splits.false, c.requires.1)

pub returns-then-not-splits : goal.returns-then-not-splits
returns-then-not-splits c = λ b st. no_sizes _ b _ c.args.k

pub returns : goal.returns
returns c =
    λ b st. sizes_told _ _ c.requires.0.readable c.args.k (c.splits.ensures c.if-not-splits.false) c.requires.0.of_kind _ c.operand-l.ensures.0 _ c.operand-r.ensures.0 _ _ b (c.size_of-left.ensures b st) (c.size_of-right.ensures b st)
