-- The proof of the cycle of calls {put_items, put_value}. The measure of `put_value` is the number of bytes of the record, and that of `put_items` one
-- more than the number of bytes left of the items.
use mathlib.Core.Path.{sym, ◌∙◌}
use native.Mathlib.Omega.{arith}
use lib.Dec.{eqb}
use Rattle.print.proofs.Items.{spelled_end, spelled_begun, first_holds, separator_room, first_room, rest_room, items_written, boolean_text_room, boolean_written, integer_text_room, integer_written, quote_text_room, quote_written, collected_at, items_room, closing_room, collection_written}
use Rattle.print.proofs.+put_items_put_value.Goals as goal

pub put_items-returns-then-from-to : goal.put_items-returns-then-from-to
put_items-returns-then-from-to t c = spelled_end c.args.is_map c.args.separator c.args.out.now c.args.at c.if-from-to.true

pub put_items-put_separator-first-requires : goal.put_items-put_separator-first-requires
put_items-put_separator-first-requires t c = separator_room c.if-from-to.false c.args.separator c.requires

pub put_items-put_value-next-requires : goal.put_items-put_value-next-requires
put_items-put_value-next-requires t c =
    let u = spelled_begun c.if-from-to.false c.requires.held in (omega arith, first_room c.if-from-to.false c.args.separator c.put_separator-first.ensures c.requires)

pub put_items-length_of-n-requires : goal.put_items-length_of-n-requires
put_items-length_of-n-requires t c = first_holds c.if-from-to.false c.requires.held

pub put_items-following-then-requires : goal.put_items-following-then-requires
put_items-following-then-requires t c = tt

pub put_items-overflow_add-from : goal.put_items-overflow_add-from
put_items-overflow_add-from t c = let u = spelled_begun c.if-from-to.false c.requires.held in omega (arith, c.length_of-n.ensures.is)

pub put_items-put_items-requires : goal.put_items-put_items-requires
put_items-put_items-requires t c =
    let u = spelled_begun c.if-from-to.false c.requires.held in (omega (arith, c.length_of-n.ensures.is), rest_room c.if-from-to.false c.args.separator c.put_separator-first.ensures c.length_of-n.ensures c.put_value-next.ensures c.requires)

pub put_items-returns : goal.put_items-returns
put_items-returns t c =
    items_written c.if-from-to.false c.args.separator c.put_separator-first.ensures c.length_of-n.ensures c.put_value-next.ensures c.args.is_map c.following-then.ensures c.put_items.ensures

pub put_value-kind_of-kind-requires : goal.put_value-kind_of-kind-requires
put_value-kind_of-kind-requires t c = c.requires.held

pub put_value-boolean_at-requires : goal.put_value-boolean_at-requires
put_value-boolean_at-requires t c = record { held = c.requires.held; kind = sym c.kind_of-kind.ensures.is ∙ c.if-kind-eq-BOOLEAN.true }

pub put_value-put_boolean-requires : goal.put_value-put_boolean-requires
put_value-put_boolean-requires t c = boolean_text_room c.boolean_at.ensures c.requires

pub put_value-returns-then-kind-eq-BOOLEAN : goal.put_value-returns-then-kind-eq-BOOLEAN
put_value-returns-then-kind-eq-BOOLEAN t c = boolean_written c.boolean_at.ensures c.put_boolean.ensures

pub put_value-integer_at-requires : goal.put_value-integer_at-requires
put_value-integer_at-requires t c = record { held = c.requires.held; kind = sym c.kind_of-kind.ensures.is ∙ c.if-kind-eq-INTEGER.true }

pub put_value-put_integer-requires : goal.put_value-put_integer-requires
put_value-put_integer-requires t c = integer_text_room c.integer_at.ensures c.requires

pub put_value-returns-then-kind-eq-INTEGER : goal.put_value-returns-then-kind-eq-INTEGER
put_value-returns-then-kind-eq-INTEGER t c = integer_written c.integer_at.ensures c.put_integer.ensures

pub put_value-quote_at-requires : goal.put_value-quote_at-requires
put_value-quote_at-requires t c = record { held = c.requires.held; kind = sym c.kind_of-kind.ensures.is ∙ c.if-kind-eq-QUOTE.true }

pub put_value-put_quote-requires : goal.put_value-put_quote-requires
put_value-put_quote-requires t c = quote_text_room c.quote_at.ensures c.requires

pub put_value-returns-then-kind-eq-QUOTE : goal.put_value-returns-then-kind-eq-QUOTE
put_value-returns-then-kind-eq-QUOTE t c = quote_written c.quote_at.ensures c.put_quote.ensures

pub put_value-length_of-n-requires : goal.put_value-length_of-n-requires
put_value-length_of-n-requires t c = c.requires.held

pub put_value-put_opening-first-requires : goal.put_value-put_opening-first-requires
put_value-put_opening-first-requires t c = omega arith

pub put_value-overflow_add-from : goal.put_value-overflow_add-from
put_value-overflow_add-from t c = omega arith

pub put_value-overflow_add-from-2 : goal.put_value-overflow_add-from-2
put_value-overflow_add-from-2 t c = omega (arith, c.length_of-n.ensures.is)

pub put_value-put_items-end-requires : goal.put_value-put_items-end-requires
put_value-put_items-end-requires t c =
    let x = collected_at c.requires.held c.kind_of-kind.ensures c.if-kind-eq-BOOLEAN.false c.if-kind-eq-INTEGER.false c.if-kind-eq-QUOTE.false in (omega (arith, c.length_of-n.ensures.is, c.length_of-n.ensures.low), items_room x c.length_of-n.ensures (eqb c.length_of-n.result 4) c.put_opening-first.ensures c.requires)

pub put_value-put_closing-requires : goal.put_value-put_closing-requires
put_value-put_closing-requires t c =
    let x = collected_at c.requires.held c.kind_of-kind.ensures c.if-kind-eq-BOOLEAN.false c.if-kind-eq-INTEGER.false c.if-kind-eq-QUOTE.false in closing_room x c.length_of-n.ensures c.put_items-end.ensures (eqb c.length_of-n.result 4) c.put_opening-first.ensures c.requires

pub put_value-returns : goal.put_value-returns
put_value-returns t c =
    let x = collected_at c.requires.held c.kind_of-kind.ensures c.if-kind-eq-BOOLEAN.false c.if-kind-eq-INTEGER.false c.if-kind-eq-QUOTE.false in collection_written x c.length_of-n.ensures c.put_items-end.ensures c.put_opening-first.ensures c.put_closing.ensures
