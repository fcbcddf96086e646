-- Whether a record is low, by recursion on the record number: an operand is lower.
use mathlib.Core.Path.{sym, ap, ◌∙◌}
use Prim.Native.Nat.{◌-◌, ◌<◌, ◌≤◌}
use native.Mathlib.Omega.{arith}
use borrow.Author.Tests.{leb-true}
use Rattle.prelude.proofs.Truth.{positive}
use Rattle.tables.specs.Shapes.{first_of}
use Rattle.tables.specs.Record.{is_leaf}
use Rattle.tables.specs.Sheet.{height}
use Rattle.tables.specs.Accepted.{records}
use Rattle.tables.proofs.Laws.Accepted.{fit_records, operand_lower}
use Rattle.checking.proofs.Heights.{low_start, low_more, operand_high, operand_last, down_start, down_bare, down_leaf, down_high, down_more, down_end}
use Rattle.checking.proofs.height.+is_low_last_low.Goals as goal
use Rattle.checking.proofs.height.+is_low_last_low.Goals.{last_low-else-not-is_flat-via-then-not-is_flat+else-not-is_low, last_low-else-not-is_flat-via-else-not-is_flat}

pub is_low-loop-room-init : goal.is_low-loop-room-init
is_low-loop-room-init t c =
    down_start (records c.args.sheet.now) c.requires.clear c.args.r c.requires.here.within c.args.most c.requires.room

pub is_low-is_leaf-requires : goal.is_low-is_leaf-requires
is_low-is_leaf-requires t c = c.kind-k.ensures.1

pub is_low-returns-then-is_leaf : goal.is_low-returns-then-is_leaf
is_low-returns-then-is_leaf t c =
    down_leaf (records c.args.sheet.now) c.requires.clear c.args.r c.requires.here.within c.args.most c.loop-room.q c.loop-room.room c.loop-room.invariant (fit_records c.args.sheet.now c.loop-room.q (omega (arith, c.loop-room.invariant.within, c.requires.here.within))) (sym (c.is_leaf.ensures ∙ ap is_leaf c.kind-k.ensures.0) ∙ c.if-is_leaf.true)

pub is_low-first_of-first-requires : goal.is_low-first_of-first-requires
is_low-first_of-first-requires t c = (sym c.is_leaf.ensures ∙ c.if-is_leaf.false, c.kind-k.ensures.1)

pub is_low-returns-then-count-eq0 : goal.is_low-returns-then-count-eq0
is_low-returns-then-count-eq0 t c =
    down_bare (records c.args.sheet.now) c.requires.clear c.args.r c.requires.here.within c.args.most c.loop-room.q c.loop-room.room c.loop-room.invariant (sym c.operands_from-count.ensures.0 ∙ c.if-count-eq0.true)

pub is_low-overflow_sub-count : goal.is_low-overflow_sub-count
is_low-overflow_sub-count t c = omega (arith, positive c.operands_from-count.result c.if-count-eq0.false)

pub is_low-last_low-requires : goal.is_low-last_low-requires
is_low-last_low-requires t c =
    (omega (arith, c.loop-room.invariant.within, c.decreases), record { low = record { here = record { few = c.requires.here.few; within = omega (arith, c.loop-room.invariant.within, c.requires.here.within) }; clear = c.requires.clear; room = omega (arith, c.loop-room-test.true) }; begin = c.first_of-first.ensures ∙ ap first_of c.kind-k.ensures.0; all = omega (arith, positive c.operands_from-count.result c.if-count-eq0.false, c.operands_from-count.ensures.0) })

pub is_low-returns : goal.is_low-returns
is_low-returns t c =
    down_end (records c.args.sheet.now) c.requires.clear c.args.r c.requires.here.within c.args.most c.loop-room.q c.loop-room.room c.loop-room.invariant c.operand_count.result (omega (arith, c.loop-room-test.false)) c.operand_count.ensures.0

pub is_low-returns-in_default : goal.is_low-returns-in_default
is_low-returns-in_default t c =
    down_high (records c.args.sheet.now) c.requires.clear c.args.r c.requires.here.within c.args.most c.loop-room.q c.loop-room.room c.loop-room.invariant (c.loop-room.room - 1) (omega (arith, c.loop-room-test.true)) c.in_default.ensures

pub is_low-loop-room-preserved : goal.is_low-loop-room-preserved
is_low-loop-room-preserved t c =
    down_more (records c.args.sheet.now) c.requires.clear c.args.r c.requires.here.within c.args.most c.loop-room.q c.loop-room.room c.loop-room.invariant (c.loop-room.room - 1) (omega (arith, c.loop-room-test.true)) (omega (arith, c.loop-room-test.true)) c.in-Some.ensures

pub last_low-loop-i-init : goal.last_low-loop-i-init
last_low-loop-i-init t c = low_start (records c.args.sheet.now) c.requires.low.clear c.args.r c.requires.low.here.within c.args.most

pub last_low-is_flat-requires : goal.last_low-is_flat-requires
last_low-is_flat-requires t c =
    let is_lower : c.operand_from-n.result < c.args.r = omega (arith, operand_lower (records c.args.sheet.now) c.requires.low.clear c.args.r c.loop-i.i c.requires.low.here.within (omega (arith, c.loop-i-test.true, c.requires.all)), c.operand_from-n.ensures.0) in
    record { here = record { few = c.requires.low.here.few; within = omega (arith, is_lower, c.requires.low.here.within) }; clear = c.requires.low.clear; room = c.requires.low.room }

pub last_low-is_low-requires : goal.last_low-is_low-requires
last_low-is_low-requires t c =
    let is_lower : c.operand_from-n.result < c.args.r = omega (arith, operand_lower (records c.args.sheet.now) c.requires.low.clear c.args.r c.loop-i.i c.requires.low.here.within (omega (arith, c.loop-i-test.true, c.requires.all)), c.operand_from-n.ensures.0) in
    (omega (arith, is_lower, c.decreases), record { here = record { few = c.requires.low.here.few; within = omega (arith, is_lower, c.requires.low.here.within) }; clear = c.requires.low.clear; room = c.requires.low.room })

pub last_low-returns-then-not-is_low : goal.last_low-returns-then-not-is_low
last_low-returns-then-not-is_low t c =
    operand_high (records c.args.sheet.now) c.requires.low.clear c.args.r c.requires.low.here.within c.args.most c.loop-i.i c.operand_from-n.result (omega (arith, c.loop-i-test.true, c.requires.all)) c.operand_from-n.ensures.0 (sym c.is_low.ensures ∙ c.if-not-is_low.true)

pub last_low-loop-i-preserved : goal.last_low-loop-i-preserved
last_low-loop-i-preserved t c =
    let is_so_low : height (records c.args.sheet.now) c.operand_from-n.result ≤ c.args.most = elim c.else-not-is_flat.branch [
      | last_low-else-not-is_flat-via-then-not-is_flat+else-not-is_low w ↦ leb-true (height (records c.args.sheet.now) c.operand_from-n.result) c.args.most (sym w.is_low.ensures ∙ w.if-not-is_low.false)
      | last_low-else-not-is_flat-via-else-not-is_flat w ↦ c.is_flat.ensures w.if-not-is_flat.false
    ] in
    low_more (records c.args.sheet.now) c.requires.low.clear c.args.r c.requires.low.here.within c.args.most c.loop-i.i c.operand_from-n.result c.operand_from-n.ensures.0 c.loop-i.invariant is_so_low

pub last_low-returns : goal.last_low-returns
last_low-returns t c =
    operand_last (records c.args.sheet.now) c.requires.low.clear c.args.r c.requires.low.here.within c.args.most c.args.last c.operand_from.result (omega (arith, c.requires.all)) c.operand_from.ensures.0 c.requires.all (λ j k. c.loop-i.invariant j (omega (arith, c.loop-i-test.false)))
