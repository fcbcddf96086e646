-- `run_of`: the items of a whole collection, those of the units that are chosen, or a span.
use native.Mathlib.Omega.{arith}
use Rattle.parts.proofs.Laws.{spans_of}
use Rattle.parts.proofs.Parting.{record_of, run_spans, run_whole, units_low, selects_startable, run_selects}
use Rattle.parts.proofs.runs.run_of.Goals as goal

pub overflow_add-result : goal.overflow_add-result
overflow_add-result c = let x = spans_of c.in-Span.is c.requires.here in omega (arith, x.here.ends, x.here.fits)

pub returns-in-Span : goal.returns-in-Span
returns-in-Span c = run_spans c.in-Span.is c.requires.here

pub length_of-requires : goal.length_of-requires
length_of-requires c = record_of c.in_default.not-Span c.requires.here

pub overflow_add-end : goal.overflow_add-end
overflow_add-end c =
    let x = record_of c.in_default.not-Span c.requires.here in let e = c.length_of.ensures.is in omega arith

pub kind_of-kind-requires : goal.kind_of-kind-requires
kind_of-kind-requires c = record_of c.in_default.not-Span c.requires.here

pub item_mask-mask-requires : goal.item_mask-mask-requires
item_mask-mask-requires c = units_low c.in-Units.is c.requires.here

pub overflow_add-at : goal.overflow_add-at
overflow_add-at c = let x = record_of c.in_default.not-Span c.requires.here in omega arith

pub ready-requires : goal.ready-requires
ready-requires c =
    selects_startable c.in-Units.is c.kind_of-kind.ensures c.item_mask-mask.ensures c.length_of.ensures c.requires.here

pub returns-in-Units : goal.returns-in-Units
returns-in-Units c =
    run_selects c.in-Units.is c.kind_of-kind.ensures c.item_mask-mask.ensures c.length_of.ensures c.ready.ensures

pub overflow_add-result-2 : goal.overflow_add-result-2
overflow_add-result-2 c = let x = record_of c.in_default.not-Span c.requires.here in omega arith

pub returns : goal.returns
returns c = run_whole c.in_default-how.not-Units c.in_default.not-Span c.length_of.ensures
