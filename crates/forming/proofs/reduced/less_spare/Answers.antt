use native.Mathlib.Omega.{arith}
use Rattle.matching.proofs.Records.{has_operand}
use Rattle.forming.proofs.Reducing.{concatenation_two, spare_left}
use Rattle.forming.proofs.reduced.less_spare.Goals as goal

pub is_spare-requires : goal.is_spare-requires
is_spare-requires c =
    record { readable = c.requires.readable; of_kind = omega (arith, c.kind-k.ensures.0); low = omega arith }

pub operand-requires : goal.operand-requires
operand-requires c =
    has_operand _ _ c.requires.readable 1 (omega (arith, concatenation_two _ _ c.requires.readable (omega (arith, c.kind-k.ensures.0))))

pub returns-then-is_spare : goal.returns-then-is_spare
returns-then-is_spare c = spare_left _ _ 0 _ c.is_spare.ensures c.if-is_spare.true _ c.operand.ensures.0

pub is_spare-requires-2 : goal.is_spare-requires-2
is_spare-requires-2 c =
    record { readable = c.requires.readable; of_kind = omega (arith, c.kind-k.ensures.0); low = omega arith }

pub operand-requires-then-is_spare-2 : goal.operand-requires-then-is_spare-2
operand-requires-then-is_spare-2 c =
    has_operand _ _ c.requires.readable 0 (omega (arith, concatenation_two _ _ c.requires.readable (omega (arith, c.kind-k.ensures.0))))

pub returns-then-is_spare-2 : goal.returns-then-is_spare-2
returns-then-is_spare-2 c = spare_left _ _ 1 _ c.is_spare-2.ensures c.if-is_spare-2.true _ c.operand-then-is_spare-2.ensures.0
