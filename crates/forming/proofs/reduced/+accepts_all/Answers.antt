use native.Mathlib.Omega.{arith}
use Rattle.matching.proofs.Records.{has_operand, operand_readable}
use Rattle.forming.proofs.Reducing.{concatenation_two, all_any, no_all, all_halves}
use Rattle.forming.proofs.reduced.+accepts_all.Goals as goal

pub kind-k-requires : goal.kind-k-requires
kind-k-requires t c = c.requires.here

pub returns-then-k-eq-ANY_PATTERN : goal.returns-then-k-eq-ANY_PATTERN
returns-then-k-eq-ANY_PATTERN t c = all_any _ _ c.requires (omega (arith, c.kind-k.ensures.0))

pub returns-then-k-ne-CONCATENATION_PATTERN : goal.returns-then-k-ne-CONCATENATION_PATTERN
returns-then-k-ne-CONCATENATION_PATTERN t c = no_all _ _ c.requires

pub operand-l-requires : goal.operand-l-requires
operand-l-requires t c =
    has_operand _ _ c.requires 0 (omega (arith, concatenation_two _ _ c.requires (omega (arith, c.kind-k.ensures.0))))

pub accepts_all-requires : goal.accepts_all-requires
accepts_all-requires t c =
    let o = operand_readable _ _ c.requires 0 (omega (arith, concatenation_two _ _ c.requires (omega (arith, c.kind-k.ensures.0)))) _ c.operand-l.ensures.0 in (omega (arith, o.1), o.0)

pub operand-r-requires : goal.operand-r-requires
operand-r-requires t c =
    has_operand _ _ c.requires 1 (omega (arith, concatenation_two _ _ c.requires (omega (arith, c.kind-k.ensures.0))))

pub accepts_all-requires-then-accepts_all : goal.accepts_all-requires-then-accepts_all
accepts_all-requires-then-accepts_all t c =
    let o = operand_readable _ _ c.requires 1 (omega (arith, concatenation_two _ _ c.requires (omega (arith, c.kind-k.ensures.0)))) _ c.operand-r.ensures.0 in (omega (arith, o.1), o.0)

pub returns-then-accepts_all : goal.returns-then-accepts_all
returns-then-accepts_all t c =
    all_halves _ _ c.requires (omega (arith, c.kind-k.ensures.0)) _ c.operand-l.ensures.0 _ c.accepts_all.ensures c.if-accepts_all.true _ c.operand-r.ensures.0 _ c.accepts_all-then-accepts_all.ensures
