use native.Mathlib.Omega.{arith}
use mathlib.Core.Path.{ap, ◌∙◌}
use Rattle.std.specs.Prelude.{Err}
use Rattle.tables.specs.Record.{is_composed}
use Rattle.tables.proofs.Laws.Kinds.{composed_told}
use Rattle.matching.proofs.Records.{count_fits, has_operand, operand_readable, recast_meets}
use Rattle.splitting.proofs.Telling.{wide_leaf, wide_unfit, wide_large, ways_held, wide_ways_lem, ways_shallow, ways_start, ways_none, way_held, ways_found, ways_next, parts_start, parts_none, piece_asked, piece_held, parts_past, parts_found, parts_next}
use Rattle.splitting.proofs.+in_way_in_ways_too_large.Goals as goal
use Rattle.splitting.proofs.+in_way_in_ways_too_large.Goals.{in_way-then-split+else-too_large, in_way-else-split}

pub in_way-kind-k-requires : goal.in_way-kind-k-requires
in_way-kind-k-requires t c = c.requires.0.here

pub in_way-operand_count-n-requires : goal.in_way-operand_count-n-requires
in_way-operand_count-n-requires t c = c.requires.0.here

pub in_way-loop-i-init : goal.in_way-loop-i-init
in_way-loop-i-init t c = parts_start _ _ c.requires.0 _ _ _ c.requires.1

pub in_way-operand-q-requires : goal.in_way-operand-q-requires
in_way-operand-q-requires t c = has_operand _ _ c.requires.0 _ (omega (arith, c.operand_count-n.ensures.0))

pub in_way-has_split-split-requires : goal.in_way-has_split-split-requires
in_way-has_split-split-requires t c =
    (operand_readable _ _ c.requires.0 _ (omega (arith, c.operand_count-n.ensures.0)) _ c.operand-q.ensures.0).0

pub in_way-piece-a-requires : goal.in_way-piece-a-requires
in_way-piece-a-requires t c =
    piece_asked _ _ c.requires.0 _ _ _ c.requires.1 _ c.loop-i.invariant (omega (arith, c.operand_count-n.ensures.0)) _ _ c.kind-k.ensures.0 c.operand_count-n.ensures.0

pub in_way-too_large-requires : goal.in_way-too_large-requires
in_way-too_large-requires t c =
    let o = operand_readable _ _ c.requires.0 _ (omega (arith, c.operand_count-n.ensures.0)) _ c.operand-q.ensures.0 in (omega (arith, o.1), (o.0, piece_held _ _ c.requires.0 _ _ _ c.requires.1 _ c.loop-i.invariant (omega (arith, c.operand_count-n.ensures.0)) _ _ c.kind-k.ensures.0 c.operand_count-n.ensures.0 _ c.piece-a.ensures, c.requires.1.short))

pub in_way-returns-then-too_large : goal.in_way-returns-then-too_large
in_way-returns-then-too_large t c =
    parts_found _ _ c.requires.0 _ _ _ c.requires.1 _ c.loop-i.invariant (omega (arith, c.operand_count-n.ensures.0)) _ _ c.kind-k.ensures.0 c.operand_count-n.ensures.0 _ c.piece-a.ensures _ c.operand-q.ensures.0 _ c.too_large.ensures c.if-too_large.true

pub in_way-loop-i-preserved : goal.in_way-loop-i-preserved
in_way-loop-i-preserved t c =
    elim c.if-split.branch [
      | in_way-then-split+else-too_large w ↦ parts_next _ _ c.requires.0 _ _ _ c.requires.1 _ c.loop-i.invariant (omega (arith, c.operand_count-n.ensures.0)) _ _ c.kind-k.ensures.0 c.operand_count-n.ensures.0 _ w.piece-a.ensures _ c.operand-q.ensures.0 _ w.too_large.ensures w.if-too_large.false
      | in_way-else-split w ↦ parts_past _ _ c.requires.0 _ _ _ c.requires.1 _ c.loop-i.invariant (omega (arith, c.operand_count-n.ensures.0)) _ c.operand-q.ensures.0 _ c.has_split-split.ensures w.if-split.false
    ]

pub in_way-returns : goal.in_way-returns
in_way-returns t c =
    parts_none _ _ c.requires.0 _ _ _ c.requires.1 c.loop-i.i c.loop-i.invariant (omega (arith, c.operand_count-n.ensures.0))

pub in_ways-is_shallow-requires : goal.in_ways-is_shallow-requires
in_ways-is_shallow-requires t c = c.requires.0

pub in_ways-returns-then-is_shallow : goal.in_ways-returns-then-is_shallow
in_ways-returns-then-is_shallow t c = ways_shallow _ _ c.requires.0 _ _ _ c.requires.1 _ c.is_shallow.ensures c.if-is_shallow.true

pub in_ways-loop-d-init : goal.in_ways-loop-d-init
in_ways-loop-d-init t c = ways_start _ _ c.requires.0 _ _ _ c.requires.1

pub in_ways-in_way-requires : goal.in_ways-in_way-requires
in_ways-in_way-requires t c =
    (omega arith, (c.requires.0, way_held _ _ c.requires.0 _ _ _ c.requires.1 _ c.loop-d.invariant (omega arith)))

pub in_ways-returns-then-in_way : goal.in_ways-returns-then-in_way
in_ways-returns-then-in_way t c =
    ways_found _ _ c.requires.0 _ _ _ c.requires.1 _ c.loop-d.invariant (omega arith) _ c.in_way.ensures c.if-in_way.true

pub in_ways-loop-d-preserved : goal.in_ways-loop-d-preserved
in_ways-loop-d-preserved t c =
    ways_next _ _ c.requires.0 _ _ _ c.requires.1 _ c.loop-d.invariant (omega arith) _ c.in_way.ensures c.if-in_way.false

pub in_ways-returns : goal.in_ways-returns
in_ways-returns t c = ways_none _ _ c.requires.0 _ _ _ c.requires.1 c.loop-d.d c.loop-d.invariant (omega arith)

pub too_large-kind-k-requires : goal.too_large-kind-k-requires
too_large-kind-k-requires t c = c.requires.0.here

pub too_large-is_composed-requires : goal.too_large-is_composed-requires
too_large-is_composed-requires t c = c.kind-k.ensures.1

pub too_large-returns-then-not-is_composed : goal.too_large-returns-then-not-is_composed
too_large-returns-then-not-is_composed t c =
    wide_leaf _ _ c.requires.0 _ _ (composed_told c.kind-k.ensures.0 c.is_composed.ensures c.if-not-is_composed.true)

pub too_large-operand_count-n-requires : goal.too_large-operand_count-n-requires
too_large-operand_count-n-requires t c = c.requires.0.here

pub too_large-meet-requires : goal.too_large-meet-requires
too_large-meet-requires t c =
    let composed = (composed_told c.kind-k.ensures.0 c.is_composed.ensures c.if-not-is_composed.false) in (ap is_composed c.kind-k.ensures.0 ∙ composed, count_fits _ _ c.requires.0 composed _ _ c.kind-k.ensures.0 c.operand_count-n.ensures.0, c.requires.1)

pub too_large-in_ways-requires : goal.too_large-in_ways-requires
too_large-in_ways-requires t c =
    (omega arith, (c.requires.0, ways_held _ _ c.requires.0 _ _ (composed_told c.kind-k.ensures.0 c.is_composed.ensures c.if-not-is_composed.false) c.meet.result (recast_meets _ _ _ _ c.meet.result c.kind-k.ensures.0 c.operand_count-n.ensures.0 c.meet.ensures) _ c.in-Ok.is c.requires.1 c.requires.2))

pub too_large-returns-in-Err-Unfit : goal.too_large-returns-in-Err-Unfit
too_large-returns-in-Err-Unfit t c =
    wide_unfit _ _ c.requires.0 _ _ (composed_told c.kind-k.ensures.0 c.is_composed.ensures c.if-not-is_composed.false) c.meet.result (recast_meets _ _ _ _ c.meet.result c.kind-k.ensures.0 c.operand_count-n.ensures.0 c.meet.ensures) (c.in-Err-Unfit.is ∙ ap Err c.in-Err-Unfit.field-0-is)

pub too_large-returns-in-Err-TooLarge : goal.too_large-returns-in-Err-TooLarge
too_large-returns-in-Err-TooLarge t c =
    wide_large _ _ c.requires.0 _ _ (composed_told c.kind-k.ensures.0 c.is_composed.ensures c.if-not-is_composed.false) c.meet.result (recast_meets _ _ _ _ c.meet.result c.kind-k.ensures.0 c.operand_count-n.ensures.0 c.meet.ensures) (c.in-Err-TooLarge.is ∙ ap Err c.in-Err-TooLarge.field-0-is)

pub too_large-returns-in-Ok : goal.too_large-returns-in-Ok
too_large-returns-in-Ok t c =
    wide_ways_lem _ _ c.requires.0 _ _ (composed_told c.kind-k.ensures.0 c.is_composed.ensures c.if-not-is_composed.false) c.meet.result (recast_meets _ _ _ _ c.meet.result c.kind-k.ensures.0 c.operand_count-n.ensures.0 c.meet.ensures) _ c.in-Ok.is _ c.in_ways.ensures
