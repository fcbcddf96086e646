use Rattle.matching.proofs.Naming.{grown_same, leaf_name, leaf_any, leaf_literal}
use Rattle.matching.proofs.Records.{name_field, name_small, literal_held}
use Rattle.parts.specs.Part.{PartHeld}
use mathlib.Core.Path.{sym, subst, ◌∙◌}
use native.Mathlib.Omega.{arith}
use Rattle.matching.proofs.leaves.match_leaf.Goals as goal

pub field-x-requires : goal.field-x-requires
field-x-requires c =
    name_field _ _ c.requires.leaf_held.readable (sym c.kind-kind.ensures.0 ∙ c.if-kind-eq-NAME_PATTERN.true)

pub bind_name-requires : goal.bind_name-requires
bind_name-requires c =
    (omega (arith, c.field-x.ensures.0, name_small _ _ c.requires.leaf_held.readable (sym c.kind-kind.ensures.0 ∙ c.if-kind-eq-NAME_PATTERN.true)), c.requires.part_held.0, c.requires.part_held.1)

pub returns-then-kind-eq-NAME_PATTERN : goal.returns-then-kind-eq-NAME_PATTERN
returns-then-kind-eq-NAME_PATTERN c =
    (leaf_name _ _ c.requires.leaf_held.readable _ _ _ _ _ _ (sym c.kind-kind.ensures.0 ∙ c.if-kind-eq-NAME_PATTERN.true) c.field-x.ensures.0 c.bind_name.ensures.0, c.bind_name.ensures.1)

pub returns-then-kind-eq-ANY_PATTERN : goal.returns-then-kind-eq-ANY_PATTERN
returns-then-kind-eq-ANY_PATTERN c =
    (leaf_any _ _ c.requires.leaf_held.readable _ _ _ (sym c.kind-kind.ensures.0 ∙ c.if-kind-eq-ANY_PATTERN.true), grown_same _)

pub is_literal-requires : goal.is_literal-requires
is_literal-requires c =
    ((literal_held _ _ c.requires.leaf_held.readable (λ e. c.if-kind-eq-NAME_PATTERN.false (c.kind-kind.ensures.0 ∙ e)) (λ e. c.if-kind-eq-ANY_PATTERN.false (c.kind-kind.ensures.0 ∙ e)) c.requires.leaf_held.leaf), subst (PartHeld _) (sym c.unpack-part.ensures) c.requires.part_held.0)

pub returns : goal.returns
returns c =
    (leaf_literal _ _ c.requires.leaf_held.readable _ _ _ (literal_held _ _ c.requires.leaf_held.readable (λ e. c.if-kind-eq-NAME_PATTERN.false (c.kind-kind.ensures.0 ∙ e)) (λ e. c.if-kind-eq-ANY_PATTERN.false (c.kind-kind.ensures.0 ∙ e)) c.requires.leaf_held.leaf) _ c.unpack-part.ensures _ c.is_literal.ensures, grown_same _)
