use native.Mathlib.Omega.{arith}
use mathlib.Core.Path.{sym, ◌∙◌}
use Rattle.matching.proofs.Records.{has_operand, operand_readable, name_field, name_small}
use Rattle.forming.proofs.Reducing.{two_halves}
use Rattle.forming.proofs.Sizing.{size_each, size_any, size_halved, size_name, word_held}
use Rattle.forming.proofs.sizes.+size_of.Goals as goal

pub kind-own-requires : goal.kind-own-requires
kind-own-requires t c = c.requires.0.here

pub operand_count-n-requires : goal.operand_count-n-requires
operand_count-n-requires t c = c.requires.0.here

pub overflow_cast-result : goal.overflow_cast-result
overflow_cast-result t c = omega (arith, c.units_of-units.ensures.0, c.operand_count-n.ensures.1)

pub returns-then-own-enumeration_of : goal.returns-then-own-enumeration_of
returns-then-own-enumeration_of t c =
    λ b st. size_each _ _ c.requires.0 c.args.k c.requires.1 (sym c.kind-own.ensures.0 ∙ c.if-own-enumeration_of.true ∙ c.enumeration_of.ensures) _ c.operand_count-n.ensures.0 _ (c.units_of-units.ensures.1 c.requires.1) b

pub operand-l-requires : goal.operand-l-requires
operand-l-requires t c =
    has_operand _ _ c.requires.0 0 (omega (arith, two_halves _ _ c.requires.0 c.args.k (sym c.kind-own.ensures.0 ∙ c.if-own-k.true) c.requires.1))

pub size_of-left-requires : goal.size_of-left-requires
size_of-left-requires t c =
    let o = operand_readable _ _ c.requires.0 0 (omega (arith, two_halves _ _ c.requires.0 c.args.k (sym c.kind-own.ensures.0 ∙ c.if-own-k.true) c.requires.1)) _ c.operand-l.ensures.0 in (omega (arith, o.1), (o.0, c.requires.1, c.requires.2))

pub operand-r-requires : goal.operand-r-requires
operand-r-requires t c =
    has_operand _ _ c.requires.0 1 (omega (arith, two_halves _ _ c.requires.0 c.args.k (sym c.kind-own.ensures.0 ∙ c.if-own-k.true) c.requires.1))

pub size_of-right-requires : goal.size_of-right-requires
size_of-right-requires t c =
    let o = operand_readable _ _ c.requires.0 1 (omega (arith, two_halves _ _ c.requires.0 c.args.k (sym c.kind-own.ensures.0 ∙ c.if-own-k.true) c.requires.1)) _ c.operand-r.ensures.0 in (omega (arith, o.1), (o.0, c.requires.1, c.requires.2))

pub returns-then-own-k : goal.returns-then-own-k
returns-then-own-k t c =
    λ b st. size_halved _ _ c.requires.0 c.args.k c.requires.1 (sym c.kind-own.ensures.0 ∙ c.if-own-k.true) _ c.operand-l.ensures.0 _ c.operand-r.ensures.0 _ _ b (c.size_of-left.ensures b st) (c.size_of-right.ensures b st) _ c.sum.ensures

pub field-x-requires : goal.field-x-requires
field-x-requires t c = name_field _ _ c.requires.0 (sym c.kind-own.ensures.0 ∙ c.if-own-eq-NAME_PATTERN.true)

pub offset_bounds-found-x : goal.offset_bounds-found-x
offset_bounds-found-x t c =
    omega (arith, c.field-x.ensures.0, name_small _ _ c.requires.0 (sym c.kind-own.ensures.0 ∙ c.if-own-eq-NAME_PATTERN.true))

pub bounds-found-x : goal.bounds-found-x
bounds-found-x t c =
    omega (arith, c.field-x.ensures.0, name_small _ _ c.requires.0 (sym c.kind-own.ensures.0 ∙ c.if-own-eq-NAME_PATTERN.true))

pub size_of_value-requires : goal.size_of_value-requires
size_of_value-requires t c =
    (word_held _ _ _ (omega (arith, c.field-x.ensures.0, name_small _ _ c.requires.0 (sym c.kind-own.ensures.0 ∙ c.if-own-eq-NAME_PATTERN.true))) c.if-word-ne0.true c.requires.2, c.requires.1)

pub returns-then-word-ne0 : goal.returns-then-word-ne0
returns-then-word-ne0 t c =
    size_name _ _ c.requires.0 c.args.k c.requires.1 (sym c.kind-own.ensures.0 ∙ c.if-own-eq-NAME_PATTERN.true) _ _ _ c.field-x.ensures.0 c.if-word-ne0.true _ c.size_of_value.ensures

pub returns : goal.returns
returns t c = λ b st. size_any _ b _ c.args.k _ (c.fewest_of-least.ensures c.requires.1)
