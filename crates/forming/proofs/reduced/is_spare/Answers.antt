use native.Mathlib.Omega.{arith}
use Prim.Native.Nat.{◌-◌}
use Rattle.matching.proofs.Records.{has_operand, operand_readable}
use Rattle.forming.proofs.Reducing.{concatenation_two, spare_told}
use Rattle.forming.proofs.reduced.is_spare.Goals as goal

pub operand-u-requires : goal.operand-u-requires
operand-u-requires c =
    has_operand _ _ c.requires.readable c.args.side (omega (arith, concatenation_two _ _ c.requires.readable c.requires.of_kind, c.requires.low))

pub accepts_all-requires : goal.accepts_all-requires
accepts_all-requires c =
    (operand_readable _ _ c.requires.readable c.args.side (omega (arith, concatenation_two _ _ c.requires.readable c.requires.of_kind, c.requires.low)) _ c.operand-u.ensures.0).0

pub overflow_sub-side : goal.overflow_sub-side
overflow_sub-side c = omega (arith, c.requires.low)

pub operand-q-requires : goal.operand-q-requires
operand-q-requires c =
    has_operand _ _ c.requires.readable (1 - c.args.side) (omega (arith, concatenation_two _ _ c.requires.readable c.requires.of_kind, c.requires.low))

pub kind-requires : goal.kind-requires
kind-requires c =
    (operand_readable _ _ c.requires.readable (1 - c.args.side) (omega (arith, concatenation_two _ _ c.requires.readable c.requires.of_kind, c.requires.low)) _ c.operand-q.ensures.0).0.here

pub takes_more-requires : goal.takes_more-requires
takes_more-requires c =
    ((operand_readable _ _ c.requires.readable (1 - c.args.side) (omega (arith, concatenation_two _ _ c.requires.readable c.requires.of_kind, c.requires.low)) _ c.operand-q.ensures.0).0, c.requires.low)

pub returns-then-kind-eq-CONCATENATION_PATTERN : goal.returns-then-kind-eq-CONCATENATION_PATTERN
returns-then-kind-eq-CONCATENATION_PATTERN c =
    spare_told _ _ c.requires.readable c.requires.of_kind c.args.side c.requires.low _ c.operand-u.ensures.0 _ c.accepts_all.ensures c.if-not-accepts_all.false _ c.operand-q.ensures.0 (operand_readable _ _ c.requires.readable (1 - c.args.side) (omega (arith, concatenation_two _ _ c.requires.readable c.requires.of_kind, c.requires.low)) _ c.operand-q.ensures.0) (omega (arith, c.kind.ensures.0)) _ c.takes_more.ensures
