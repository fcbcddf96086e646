use native.Mathlib.Omega.{arith}
use Rattle.matching.proofs.Records.{has_operand, operand_readable}
use Rattle.forming.proofs.Reducing.{concatenation_two, more_wild, no_more, more_told}
use Rattle.forming.proofs.reduced.+takes_more.Goals as goal

pub kind-k-requires : goal.kind-k-requires
kind-k-requires t c = c.requires.0.here

pub returns-then-k-eq-ANY_PATTERN : goal.returns-then-k-eq-ANY_PATTERN
returns-then-k-eq-ANY_PATTERN t c = more_wild _ _ c.requires.0 (omega (arith, c.kind-k.ensures.0)) c.args.side

pub returns-then-k-ne-CONCATENATION_PATTERN : goal.returns-then-k-ne-CONCATENATION_PATTERN
returns-then-k-ne-CONCATENATION_PATTERN t c = no_more _ _ c.requires.0 c.args.side

pub operand-q-requires : goal.operand-q-requires
operand-q-requires t c =
    has_operand _ _ c.requires.0 c.args.side (omega (arith, concatenation_two _ _ c.requires.0 (omega (arith, c.kind-k.ensures.0)), c.requires.1))

pub takes_more-requires : goal.takes_more-requires
takes_more-requires t c =
    let o = operand_readable _ _ c.requires.0 c.args.side (omega (arith, concatenation_two _ _ c.requires.0 (omega (arith, c.kind-k.ensures.0)), c.requires.1)) _ c.operand-q.ensures.0 in (omega (arith, o.1), (o.0, c.requires.1))

pub returns : goal.returns
returns t c =
    more_told _ _ c.requires.0 (omega (arith, c.kind-k.ensures.0)) c.args.side c.requires.1 _ c.operand-q.ensures.0 _ c.takes_more.ensures
