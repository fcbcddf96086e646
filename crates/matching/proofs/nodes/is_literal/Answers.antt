-- is_literal
use mathlib.Core.Path.{sym, ◌∙◌}
use mathlib.Core.Logic.{inl, inr}
use native.Mathlib.Omega.{arith}
use borrow.Author.Tests.{ne_eqb}
use Rattle.matching.proofs.Literals.{the_integer, other_truth, other_whole, other_quote, truth_field, whole_field, quote_field, of_kind, both_truth, both_whole, both_quote}
use Rattle.matching.proofs.nodes.is_literal.Goals as goal

pub boolean_at-requires : goal.boolean_at-requires
boolean_at-requires c =
    of_kind _ _ c.requires.0 _ _ _ c.kind_of_part-k.ensures (inl (omega arith)) _ c.if-k-eq-BOOLEAN.true c.requires.1

pub field-requires : goal.field-requires
field-requires c = truth_field _ _ c.requires.0 (sym c.kind-kind.ensures.0 ∙ c.in-34.is)

pub quote_at-requires : goal.quote_at-requires
quote_at-requires c =
    of_kind _ _ c.requires.0 _ _ _ c.kind_of_part-k.ensures (inr (omega arith)) _ c.if-k-eq-QUOTE.true c.requires.1

pub quote-requires : goal.quote-requires
quote-requires c = quote_field _ _ c.requires.0 (sym c.kind-kind.ensures.0 ∙ c.in-43.is)

pub integer_at-requires : goal.integer_at-requires
integer_at-requires c =
    of_kind _ _ c.requires.0 _ _ _ c.kind_of_part-k.ensures (inl (omega arith)) _ c.if-k-eq-INTEGER.true c.requires.1

pub integer-requires : goal.integer-requires
integer-requires c =
    whole_field _ _ c.requires.0 (the_integer _ _ c.requires.0 (λ e. omega (arith, c.kind-kind.ensures.0, e)) (λ e. omega (arith, c.kind-kind.ensures.0, e)))

pub returns-then-k-eq-BOOLEAN : goal.returns-then-k-eq-BOOLEAN
returns-then-k-eq-BOOLEAN c =
    both_truth _ _ c.requires.0 _ _ _ c.kind_of_part-k.ensures (inl (omega arith)) _ _ (sym c.kind-kind.ensures.0 ∙ c.in-34.is) c.boolean_at.ensures c.field.ensures.0

pub returns-else-k-eq-BOOLEAN : goal.returns-else-k-eq-BOOLEAN
returns-else-k-eq-BOOLEAN c =
    rw (ne_eqb _ 1 c.if-k-eq-BOOLEAN.false) (other_truth _ _ c.requires.0 _ _ _ c.kind_of_part-k.ensures (sym c.kind-kind.ensures.0 ∙ c.in-34.is) c.if-k-eq-BOOLEAN.false)

pub returns-then-k-eq-QUOTE : goal.returns-then-k-eq-QUOTE
returns-then-k-eq-QUOTE c =
    both_quote _ _ c.requires.0 _ _ _ c.kind_of_part-k.ensures (inr (omega arith)) _ _ (sym c.kind-kind.ensures.0 ∙ c.in-43.is) c.quote_at.ensures c.quote.ensures.0

pub returns-else-k-eq-QUOTE : goal.returns-else-k-eq-QUOTE
returns-else-k-eq-QUOTE c =
    rw (ne_eqb _ 7 c.if-k-eq-QUOTE.false) (other_quote _ _ c.requires.0 _ _ _ c.kind_of_part-k.ensures (sym c.kind-kind.ensures.0 ∙ c.in-43.is) c.if-k-eq-QUOTE.false)

pub returns-then-k-eq-INTEGER : goal.returns-then-k-eq-INTEGER
returns-then-k-eq-INTEGER c =
    both_whole _ _ c.requires.0 _ _ _ c.kind_of_part-k.ensures (inl (omega arith)) _ _ (the_integer _ _ c.requires.0 (λ e. omega (arith, c.kind-kind.ensures.0, e)) (λ e. omega (arith, c.kind-kind.ensures.0, e))) c.integer_at.ensures c.integer.ensures (record { sfits = c.integer.type_inv }) (record { sfits = c.integer_at.type_inv })

pub returns-else-k-eq-INTEGER : goal.returns-else-k-eq-INTEGER
returns-else-k-eq-INTEGER c =
    rw (ne_eqb _ 2 c.if-k-eq-INTEGER.false) (other_whole _ _ c.requires.0 _ _ _ c.kind_of_part-k.ensures (the_integer _ _ c.requires.0 (λ e. omega (arith, c.kind-kind.ensures.0, e)) (λ e. omega (arith, c.kind-kind.ensures.0, e))) c.if-k-eq-INTEGER.false)
