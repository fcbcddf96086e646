use mathlib.Core.Path.{sym, ap, ◌∙◌}
use Prim.Native.Nat.{ℕ}
use native.Mathlib.Omega.{arith}
use Rattle.forming.proofs.Stacking.{depth_few, met_as, unmatched, no_ways, ways_few, first_asked, frame_fits, frame_opened}
use Rattle.matching.proofs.Records.{count_few}
use Rattle.forming.proofs.Solving.{part_of}
use Rattle.forming.proofs.Ranking.{opened_less, not_opened_less}
use Rattle.tables.specs.Record.{is_composed}
use Rattle.patterns.specs.Nodes.{collection_of, width}
use Rattle.forming.proofs.open_frame.Goals as goal

pub overflow_cast-whole : goal.overflow_cast-whole
overflow_cast-whole c = let r = c.requires.waiting.composed.readable in omega (arith, r.here, r.fine.few)

pub reduced-p-requires : goal.reduced-p-requires
reduced-p-requires c = c.requires.waiting.composed

pub kind-k-requires : goal.kind-k-requires
kind-k-requires c = c.reduced-p.ensures.composed.readable.here

pub operand_count-c-requires : goal.operand_count-c-requires
operand_count-c-requires c = c.reduced-p.ensures.composed.readable.here

pub meet-requires : goal.meet-requires
meet-requires c =
    (ap is_composed c.kind-k.ensures.0 ∙ c.reduced-p.ensures.composed.composed, (let r = c.reduced-p.ensures.composed in omega (arith, count_few _ _ r.readable r.composed, c.operand_count-c.ensures.0, ap (λ (k : ℕ). width (collection_of k)) c.kind-k.ensures.0)), part_of _ _ _ c.requires.waiting.value c.unpack-part.ensures c.requires.waiting.here)

pub sizes_of-sizes-requires : goal.sizes_of-sizes-requires
sizes_of-sizes-requires c =
    (record { readable = c.reduced-p.ensures.composed.readable; of_kind = sym c.kind-k.ensures.0 }, (c.requires.waiting.binding, c.requires.waiting.stands))

pub way_from-way-requires : goal.way_from-way-requires
way_from-way-requires c =
    first_asked _ _ _ _ _ _ _ _ _ _ _ _ _ _ c.requires.waiting _ c.reduced-p.ensures c.meet.result (met_as _ _ _ _ _ _ _ _ _ _ _ _ _ _ c.requires.waiting _ c.reduced-p.ensures _ _ _ c.meet.result c.kind-k.ensures.0 c.operand_count-c.ensures.0 c.unpack-part.ensures c.meet.ensures) _ c.in-Ok.is _ c.kind-k.ensures.0 _ c.sizes_of-sizes.ensures

pub is_settled-once-requires : goal.is_settled-once-requires
is_settled-once-requires c = c.reduced-p.ensures.composed.readable

pub mask_of-mask-requires : goal.mask_of-mask-requires
mask_of-mask-requires c = c.requires.waiting.stacked.sized

pub tests_of-tests-requires : goal.tests_of-tests-requires
tests_of-tests-requires c = c.reduced-p.ensures.composed

pub asked_by_union-requires : goal.asked_by_union-requires
asked_by_union-requires c =
    (record { readable = c.reduced-p.ensures.composed.readable; short = c.requires.waiting.stacked.short; standing = (c.requires.waiting.binding, c.requires.waiting.stands) }, part_of _ _ _ c.requires.waiting.value c.unpack-part.ensures c.requires.waiting.here)

pub advance-requires : goal.advance-requires
advance-requires c =
    (depth_few _ _ _ _ _ _ _ _ _ _ _ _ _ _ c.requires.waiting, c.requires.waiting.stacked.frames_long, frame_fits _ _ _ _ _ _ _ _ _ _ _ _ _ _ c.requires.waiting _ c.reduced-p.ensures c.meet.result (met_as _ _ _ _ _ _ _ _ _ _ _ _ _ _ c.requires.waiting _ c.reduced-p.ensures _ _ _ c.meet.result c.kind-k.ensures.0 c.operand_count-c.ensures.0 c.unpack-part.ensures c.meet.ensures) _ c.in-Ok.is _ c.kind-k.ensures.0 _ c.sizes_of-sizes.ensures _ c.way_from-way.ensures _ c.is_settled-once.ensures _ c.mask_of-mask.ensures _ c.tests_of-tests.ensures _)

pub returns-in_default : goal.returns-in_default
returns-in_default c =
    record { right = λ hit rows order target w. no_ways _ _ _ _ _ _ _ _ _ _ _ _ _ _ w _ c.reduced-p.ensures c.meet.result (met_as _ _ _ _ _ _ _ _ _ _ _ _ _ _ w _ c.reduced-p.ensures _ _ _ c.meet.result c.kind-k.ensures.0 c.operand_count-c.ensures.0 c.unpack-part.ensures c.meet.ensures) c.in_default.not-Ok; less = not_opened_less _ _ _ }

pub returns : goal.returns
returns c =
    record { right = λ hit rows order target w. frame_opened _ _ _ _ _ _ _ _ _ _ _ _ _ _ w _ c.reduced-p.ensures c.meet.result (met_as _ _ _ _ _ _ _ _ _ _ _ _ _ _ w _ c.reduced-p.ensures _ _ _ c.meet.result c.kind-k.ensures.0 c.operand_count-c.ensures.0 c.unpack-part.ensures c.meet.ensures) _ c.in-Ok.is _ c.kind-k.ensures.0 _ c.sizes_of-sizes.ensures _ c.way_from-way.ensures _ c.is_settled-once.ensures _ c.mask_of-mask.ensures _ c.tests_of-tests.ensures _ _ _ c.advance.ensures; less = opened_less _ _ (depth_few _ _ _ _ _ _ _ _ _ _ _ _ _ _ c.requires.waiting) c.requires.waiting.stacked.frames_long _ _ _ c.advance.ensures (ways_few _ _ _ _ _ _ _ _ _ _ _ _ _ _ c.requires.waiting _ c.reduced-p.ensures c.meet.result (met_as _ _ _ _ _ _ _ _ _ _ _ _ _ _ c.requires.waiting _ c.reduced-p.ensures _ _ _ c.meet.result c.kind-k.ensures.0 c.operand_count-c.ensures.0 c.unpack-part.ensures c.meet.ensures) _ c.in-Ok.is _ c.kind-k.ensures.0 _ c.sizes_of-sizes.ensures) }

pub returns-in_default-asked_by_union : goal.returns-in_default-asked_by_union
returns-in_default-asked_by_union c =
    record { right = λ hit rows order target w. unmatched _ _ _ _ _ _ _ _ _ _ _ _ _ _ w _ c.reduced-p.ensures _ c.unpack-part.ensures (c.asked_by_union.ensures _ c.in_default-asked_by_union.is); less = not_opened_less _ _ _ }
