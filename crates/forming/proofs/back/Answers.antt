use mathlib.Core.Path.{refl, ap}
use Prim.Native.Nat.{◌-◌, ◌<◌}
use native.Mathlib.Omega.{arith}
use Rattle.forming.proofs.Downward.{reached}
use Rattle.forming.proofs.Ranking.{left_less}
use Rattle.forming.proofs.Returning.{last_of, last_few, top_low, top_room, last_left, next_asked, word_met, push_asked, next_less, going_down}
use Rattle.forming.specs.declared.frames.Frame.{Frame}
use Rattle.forming.proofs.Framing.{advanced_from}
use Rattle.forming.specs.declared.Step.{Step}
use Rattle.forming.specs.Frames.{rank}
use Rattle.forming.proofs.Told.{for_ok}
use Rattle.forming.proofs.back.Goals as goal

pub overflow_sub-i : goal.overflow_sub-i
overflow_sub-i c = omega (arith, c.requires.some)

pub load-f-requires : goal.load-f-requires
load-f-requires c =
    (last_few _ _ _ _ _ _ _ _ _ _ _ _ (last_of _ _ _ _ _ _ _ _ _ _ _ c.requires.stacked (c.args.depth - 1) (omega (arith, c.requires.some)) _ refl), c.requires.stacked.frames_long)

pub returns-then-i-hit : goal.returns-then-i-hit
returns-then-i-hit c =
    record { right = λ t h. reached _ _ _ _ _ _ _ _ _ _ _ (last_left _ _ _ _ _ _ _ _ _ _ _ _ (last_of _ _ _ _ _ _ _ _ _ _ _ h (c.args.depth - 1) (omega (arith, c.requires.some)) _ c.load-f.ensures) c.if-f.true (omega arith)); less = for_ok (λ (t : Step). rank c.args.frames.now t.depth < rank c.args.frames.now c.args.depth) (left_less _ _ _ (omega (arith, c.requires.some)) _ c.load-f.ensures (last_of _ _ _ _ _ _ _ _ _ _ _ c.requires.stacked (c.args.depth - 1) (omega (arith, c.requires.some)) _ c.load-f.ensures).is.within) }

pub kind-k-requires : goal.kind-k-requires
kind-k-requires c =
    (last_of _ _ _ _ _ _ _ _ _ _ _ c.requires.stacked (c.args.depth - 1) (omega (arith, c.requires.some)) _ c.load-f.ensures).is.composed.readable.here

pub operand_count-c-requires : goal.operand_count-c-requires
operand_count-c-requires c =
    (last_of _ _ _ _ _ _ _ _ _ _ _ c.requires.stacked (c.args.depth - 1) (omega (arith, c.requires.some)) _ c.load-f.ensures).is.composed.readable.here

pub overflow_mul-met : goal.overflow_mul-met
overflow_mul-met c =
    omega (arith, (last_of _ _ _ _ _ _ _ _ _ _ _ c.requires.stacked (c.args.depth - 1) (omega (arith, c.requires.some)) _ c.load-f.ensures).is.low, top_low _ _ _ _ _ _ _ _ _ _ _ _ (last_of _ _ _ _ _ _ _ _ _ _ _ c.requires.stacked (c.args.depth - 1) (omega (arith, c.requires.some)) _ c.load-f.ensures), (last_of _ _ _ _ _ _ _ _ _ _ _ c.requires.stacked (c.args.depth - 1) (omega (arith, c.requires.some)) _ c.load-f.ensures).long)

pub overflow_add-met : goal.overflow_add-met
overflow_add-met c =
    omega (arith, (last_of _ _ _ _ _ _ _ _ _ _ _ c.requires.stacked (c.args.depth - 1) (omega (arith, c.requires.some)) _ c.load-f.ensures).is.low, top_low _ _ _ _ _ _ _ _ _ _ _ _ (last_of _ _ _ _ _ _ _ _ _ _ _ c.requires.stacked (c.args.depth - 1) (omega (arith, c.requires.some)) _ c.load-f.ensures), (last_of _ _ _ _ _ _ _ _ _ _ _ c.requires.stacked (c.args.depth - 1) (omega (arith, c.requires.some)) _ c.load-f.ensures).long)

pub offset_bounds-agenda-at : goal.offset_bounds-agenda-at
offset_bounds-agenda-at c =
    omega (arith, (last_of _ _ _ _ _ _ _ _ _ _ _ c.requires.stacked (c.args.depth - 1) (omega (arith, c.requires.some)) _ c.load-f.ensures).is.low, top_low _ _ _ _ _ _ _ _ _ _ _ _ (last_of _ _ _ _ _ _ _ _ _ _ _ c.requires.stacked (c.args.depth - 1) (omega (arith, c.requires.some)) _ c.load-f.ensures), (last_of _ _ _ _ _ _ _ _ _ _ _ c.requires.stacked (c.args.depth - 1) (omega (arith, c.requires.some)) _ c.load-f.ensures).long)

pub bounds-agenda-at : goal.bounds-agenda-at
bounds-agenda-at c =
    omega (arith, (last_of _ _ _ _ _ _ _ _ _ _ _ c.requires.stacked (c.args.depth - 1) (omega (arith, c.requires.some)) _ c.load-f.ensures).is.low, top_low _ _ _ _ _ _ _ _ _ _ _ _ (last_of _ _ _ _ _ _ _ _ _ _ _ c.requires.stacked (c.args.depth - 1) (omega (arith, c.requires.some)) _ c.load-f.ensures), (last_of _ _ _ _ _ _ _ _ _ _ _ c.requires.stacked (c.args.depth - 1) (omega (arith, c.requires.some)) _ c.load-f.ensures).long)

pub split_word-w-requires : goal.split_word-w-requires
split_word-w-requires c =
    word_met _ _ _ _ _ _ _ _ _ _ _ _ (last_of _ _ _ _ _ _ _ _ _ _ _ c.requires.stacked (c.args.depth - 1) (omega (arith, c.requires.some)) _ c.load-f.ensures) _ c.kind-k.ensures.0 _ refl

pub overflow_add-f : goal.overflow_add-f
overflow_add-f c =
    omega (arith, (last_of _ _ _ _ _ _ _ _ _ _ _ c.requires.stacked (c.args.depth - 1) (omega (arith, c.requires.some)) _ c.load-f.ensures).is.within, (last_of _ _ _ _ _ _ _ _ _ _ _ c.requires.stacked (c.args.depth - 1) (omega (arith, c.requires.some)) _ c.load-f.ensures).is.few)

pub way_from-way-requires : goal.way_from-way-requires
way_from-way-requires c =
    next_asked _ _ _ _ _ _ _ _ _ _ _ _ (last_of _ _ _ _ _ _ _ _ _ _ _ c.requires.stacked (c.args.depth - 1) (omega (arith, c.requires.some)) _ c.load-f.ensures) _ c.kind-k.ensures.0

pub go_on-left-requires : goal.go_on-left-requires
go_on-left-requires c =
    let l = (last_of _ _ _ _ _ _ _ _ _ _ _ c.requires.stacked (c.args.depth - 1) (omega (arith, c.requires.some)) _ c.load-f.ensures) in (last_few _ _ _ _ _ _ _ _ _ _ _ _ l, l.frames_long, l.is.few, ap (λ (f : Frame). f.ways) c.load-f.ensures, omega (arith, l.rows_are.few))

pub clear-requires : goal.clear-requires
clear-requires c =
    (last_of _ _ _ _ _ _ _ _ _ _ _ c.requires.stacked (c.args.depth - 1) (omega (arith, c.requires.some)) _ c.load-f.ensures).sized

pub push-head-requires : goal.push-head-requires
push-head-requires c =
    push_asked _ _ _ _ _ _ _ _ _ _ _ _ (last_of _ _ _ _ _ _ _ _ _ _ _ c.requires.stacked (c.args.depth - 1) (omega (arith, c.requires.some)) _ c.load-f.ensures) _ c.kind-k.ensures.0 _ c.way_from-way.ensures _ c.split_word-w.ensures

pub overflow_add-f-2 : goal.overflow_add-f-2
overflow_add-f-2 c =
    omega (arith, top_room _ _ _ _ _ _ _ _ _ _ _ _ (last_of _ _ _ _ _ _ _ _ _ _ _ c.requires.stacked (c.args.depth - 1) (omega (arith, c.requires.some)) _ c.load-f.ensures), c.operand_count-c.ensures.0)

pub down-requires : goal.down-requires
down-requires c =
    (_, going_down _ _ _ _ _ _ _ _ _ _ _ _ (last_of _ _ _ _ _ _ _ _ _ _ _ c.requires.stacked (c.args.depth - 1) (omega (arith, c.requires.some)) _ c.load-f.ensures) _ c.kind-k.ensures.0 _ c.way_from-way.ensures _ c.split_word-w.ensures _ _ c.push-head.ensures _ _ (advanced_from _ _ _ c.load-f.ensures _ _ _ _ c.go_on-left.ensures) _ c.clear.ensures _ c.operand_count-c.ensures.0 c.min.result (omega (arith, c.min.ensures)) (omega (arith, c.min.ensures)))

pub returns : goal.returns
returns c =
    record { right = λ t h. c.down.ensures.right t (going_down _ _ _ _ _ _ _ _ _ _ _ _ (last_of _ _ _ _ _ _ _ _ _ _ _ h (c.args.depth - 1) (omega (arith, c.requires.some)) _ c.load-f.ensures) _ c.kind-k.ensures.0 _ c.way_from-way.ensures _ c.split_word-w.ensures _ _ c.push-head.ensures _ _ (advanced_from _ _ _ c.load-f.ensures _ _ _ _ c.go_on-left.ensures) _ c.clear.ensures _ c.operand_count-c.ensures.0 c.min.result (omega (arith, c.min.ensures)) (omega (arith, c.min.ensures))); less = λ t e. next_less _ _ _ _ _ _ _ _ _ _ _ _ (last_of _ _ _ _ _ _ _ _ _ _ _ c.requires.stacked (c.args.depth - 1) (omega (arith, c.requires.some)) _ c.load-f.ensures) _ c.kind-k.ensures.0 _ c.way_from-way.ensures _ c.split_word-w.ensures _ _ c.push-head.ensures _ _ (advanced_from _ _ _ c.load-f.ensures _ _ _ _ c.go_on-left.ensures) _ c.clear.ensures _ c.operand_count-c.ensures.0 c.min.result (omega (arith, c.min.ensures)) (omega (arith, c.min.ensures)) _ (omega (arith, c.requires.some)) c.load-f.ensures _ (c.down.ensures.less t e) }
