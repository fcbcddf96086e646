-- The proof of the cycle of calls {compare, compare_items}. The measure of `compare` is the number of bytes of the first record, and that of
-- `compare_items` one more than the number of bytes left of the first items.
use mathlib.Core.Path.{refl, sym, ◌∙◌}
use mathlib.Core.Logic.{inl, inr}
use native.Mathlib.Omega.{arith}
use Rattle.values.proofs.Ordering.{both, by_kinds, collections, first_items, second_items, ordered_by_items, both_none, first-none, second_none, begun, rest_items, items_first_other, not_ne, items_first_same}
use Rattle.values.proofs.+compare_compare_items.Goals as goal

pub compare-kind_of-ka-requires : goal.compare-kind_of-ka-requires
compare-kind_of-ka-requires t c = c.requires.0

pub compare-kind_of-kb-requires : goal.compare-kind_of-kb-requires
compare-kind_of-kb-requires t c = c.requires.1

pub compare-compare_numbers-requires : goal.compare-compare_numbers-requires
compare-compare_numbers-requires t c = tt

pub compare-returns-then-ka-kb : goal.compare-returns-then-ka-kb
compare-returns-then-ka-kb t c = by_kinds _ c.kind_of-ka.ensures c.kind_of-kb.ensures c.if-ka-kb.true c.compare_numbers.ensures

pub compare-compare_integers-requires : goal.compare-compare_integers-requires
compare-compare_integers-requires t c =
    let p = c.requires in both p.0 p.1 c.kind_of-ka.ensures c.kind_of-kb.ensures c.if-ka-kb.false c.if-ka-eq-INTEGER.true

pub compare-returns-then-ka-eq-INTEGER : goal.compare-returns-then-ka-eq-INTEGER
compare-returns-then-ka-eq-INTEGER t c = c.compare_integers.ensures

pub compare-compare_numbered-requires : goal.compare-compare_numbered-requires
compare-compare_numbered-requires t c =
    let p = c.requires in (both p.0 p.1 c.kind_of-ka.ensures c.kind_of-kb.ensures c.if-ka-kb.false refl, inl c.if-ka-eq-BOOLEAN.true)

pub compare-returns-then-ka-eq-BOOLEAN : goal.compare-returns-then-ka-eq-BOOLEAN
compare-returns-then-ka-eq-BOOLEAN t c = c.compare_numbered.ensures

pub compare-compare_numbered-requires-then-ka-eq-QUOTE : goal.compare-compare_numbered-requires-then-ka-eq-QUOTE
compare-compare_numbered-requires-then-ka-eq-QUOTE t c =
    let p = c.requires in (both p.0 p.1 c.kind_of-ka.ensures c.kind_of-kb.ensures c.if-ka-kb.false refl, inr c.if-ka-eq-QUOTE.true)

pub compare-returns-then-ka-eq-QUOTE : goal.compare-returns-then-ka-eq-QUOTE
compare-returns-then-ka-eq-QUOTE t c = c.compare_numbered-then-ka-eq-QUOTE.ensures

pub compare-length_of-la-requires : goal.compare-length_of-la-requires
compare-length_of-la-requires t c = c.requires.0

pub compare-length_of-lb-requires : goal.compare-length_of-lb-requires
compare-length_of-lb-requires t c = c.requires.1

pub compare-overflow_add-a : goal.compare-overflow_add-a
compare-overflow_add-a t c = omega arith

pub compare-overflow_add-a-2 : goal.compare-overflow_add-a-2
compare-overflow_add-a-2 t c = omega arith

pub compare-overflow_add-b : goal.compare-overflow_add-b
compare-overflow_add-b t c = omega arith

pub compare-overflow_add-b-2 : goal.compare-overflow_add-b-2
compare-overflow_add-b-2 t c = omega arith

pub compare-compare_items-requires : goal.compare-compare_items-requires
compare-compare_items-requires t c =
    let p = c.requires in
    let x = collections p.0 p.1 c.kind_of-ka.ensures c.kind_of-kb.ensures c.if-ka-kb.false c.if-ka-eq-BOOLEAN.false c.if-ka-eq-INTEGER.false c.if-ka-eq-QUOTE.false in
    (omega arith, (first_items x c.length_of-la.ensures, second_items x c.length_of-lb.ensures))

pub compare-returns : goal.compare-returns
compare-returns t c =
    let p = c.requires in
    let x = collections p.0 p.1 c.kind_of-ka.ensures c.kind_of-kb.ensures c.if-ka-kb.false c.if-ka-eq-BOOLEAN.false c.if-ka-eq-INTEGER.false c.if-ka-eq-QUOTE.false in
    ordered_by_items x _ c.length_of-la.ensures c.length_of-lb.ensures c.compare_items.ensures

pub compare_items-returns-then-b-b_end : goal.compare_items-returns-then-b-b_end
compare_items-returns-then-b-b_end t c = both_none c.if-a-a_end.true c.if-b-b_end.true

pub compare_items-returns-then-a-a_end : goal.compare_items-returns-then-a-a_end
compare_items-returns-then-a-a_end t c = first-none c.if-a-a_end.true c.if-b-b_end.false

pub compare_items-returns-then-b-b_end-2 : goal.compare_items-returns-then-b-b_end-2
compare_items-returns-then-b-b_end-2 t c = second_none c.if-a-a_end.false c.if-b-b_end-2.true

pub compare_items-compare-first-requires : goal.compare_items-compare-first-requires
compare_items-compare-first-requires t c =
    let x = begun c.if-a-a_end.false c.requires.0 in
    let y = begun c.if-b-b_end-2.false c.requires.1 in
    (omega arith, (x.held, y.held))

pub compare_items-length_of-la-requires : goal.compare_items-length_of-la-requires
compare_items-length_of-la-requires t c = (begun c.if-a-a_end.false c.requires.0).held

pub compare_items-length_of-lb-requires : goal.compare_items-length_of-lb-requires
compare_items-length_of-lb-requires t c = (begun c.if-b-b_end-2.false c.requires.1).held

pub compare_items-overflow_add-a : goal.compare_items-overflow_add-a
compare_items-overflow_add-a t c =
    let x = begun c.if-a-a_end.false c.requires.0 in
    let y = begun c.if-b-b_end-2.false c.requires.1 in
    omega arith

pub compare_items-overflow_add-b : goal.compare_items-overflow_add-b
compare_items-overflow_add-b t c =
    let x = begun c.if-a-a_end.false c.requires.0 in
    let y = begun c.if-b-b_end-2.false c.requires.1 in
    omega arith

pub compare_items-compare_items-requires : goal.compare_items-compare_items-requires
compare_items-compare_items-requires t c =
    let p = c.requires in
    let x = begun c.if-a-a_end.false c.requires.0 in
    (omega arith, (rest_items c.if-a-a_end.false c.length_of-la.ensures p.0, rest_items c.if-b-b_end-2.false c.length_of-lb.ensures p.1))

pub compare_items-returns-then-is_ne : goal.compare_items-returns-then-is_ne
compare_items-returns-then-is_ne t c = items_first_other c.if-a-a_end.false c.if-b-b_end-2.false c.compare-first.ensures (sym c.is_ne.ensures ∙ c.if-is_ne.true)

pub compare_items-returns : goal.compare_items-returns
compare_items-returns t c =
    items_first_same c.if-a-a_end.false c.if-b-b_end-2.false c.compare-first.ensures _ (not_ne (sym c.is_ne.ensures ∙ c.if-is_ne.false)) c.length_of-la.ensures c.length_of-lb.ensures c.compare_items.ensures
