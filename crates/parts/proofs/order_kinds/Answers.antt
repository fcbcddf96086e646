use native.Mathlib.Omega.{arith}
use Rattle.parts.proofs.Laws.{collection_held}
use Rattle.parts.proofs.Parting.{kinds_apart, kinds_collection, run_held, runs_order}
use Rattle.parts.proofs.order_kinds.Goals as goal

pub kind_of_part-kp-requires : goal.kind_of_part-kp-requires
kind_of_part-kp-requires c = c.requires.part_held.0

pub kind_of_part-kq-requires : goal.kind_of_part-kq-requires
kind_of_part-kq-requires c = c.requires.part_held.1

pub returns-then-kp-kq : goal.returns-then-kp-kq
returns-then-kp-kq c = kinds_apart c.kind_of_part-kp.ensures c.kind_of_part-kq.ensures _ c.if-kp-kq.true c.cmp.ensures

pub run_of-a-requires : goal.run_of-a-requires
run_of-a-requires c =
    let (i, k) = kinds_collection c.kind_of_part-kp.ensures c.kind_of_part-kq.ensures c.requires.part_held.0 c.requires.part_held.1 c.requires.not_both_whole c.if-kp-kq.false in collection_held i c.kind_of_part-kp.ensures k c.requires.part_held.0

pub run_of-b-requires : goal.run_of-b-requires
run_of-b-requires c =
    let (i, k) = kinds_collection c.kind_of_part-kp.ensures c.kind_of_part-kq.ensures c.requires.part_held.0 c.requires.part_held.1 c.requires.not_both_whole c.if-kp-kq.false in collection_held i c.kind_of_part-kq.ensures (omega arith) c.requires.part_held.1

pub order-requires : goal.order-requires
order-requires c =
    let (i, k) = kinds_collection c.kind_of_part-kp.ensures c.kind_of_part-kq.ensures c.requires.part_held.0 c.requires.part_held.1 c.requires.not_both_whole c.if-kp-kq.false in (run_held (collection_held i c.kind_of_part-kp.ensures k c.requires.part_held.0) c.run_of-a.ensures, run_held (collection_held i c.kind_of_part-kq.ensures (omega arith) c.requires.part_held.1) c.run_of-b.ensures)

pub returns : goal.returns
returns c =
    runs_order c.kind_of_part-kp.ensures c.kind_of_part-kq.ensures (kinds_collection c.kind_of_part-kp.ensures c.kind_of_part-kq.ensures c.requires.part_held.0 c.requires.part_held.1 c.requires.not_both_whole (omega arith)) (omega arith) c.run_of-a.ensures c.run_of-b.ensures c.order.ensures
