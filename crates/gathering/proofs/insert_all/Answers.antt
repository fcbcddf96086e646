-- `insert_all` meets its contract: what the set has, with what is left, is what it will have.
use mathlib.Core.Path.{refl, ◌∙◌}
use native.Mathlib.Omega.{arith}
use Rattle.values.proofs.Frame.{outside_both}
use Rattle.calling.proofs.Answering.{passed_up}
use Rattle.gathering.specs.Inserting.{themselves}
use Rattle.gathering.proofs.Growth.{gather_start, gather_next, gather_room, gather_on, gather_full, gather_end, insert_law, insert_step}
use Rattle.gathering.proofs.insert_all.Goals as goal

pub loop-p-init : goal.loop-p-init
loop-p-init c = gather_start themselves _ _ _ _

pub insert-requires : goal.insert-requires
insert-requires c = gather_room c.loop-p.invariant (omega arith) c.requires.0 c.requires.1

pub returns-in_err-insert : goal.returns-in_err-insert
returns-in_err-insert c =
    rw (passed_up _ c.from_residual.ensures.1) (gather_full c.loop-p.invariant insert_law (omega arith) c.requires.1.apart (insert_step c.insert.ensures) c.in_err-insert.was)

pub length_of-p-requires : goal.length_of-p-requires
length_of-p-requires c =
    let n = gather_next c.loop-p.invariant (omega arith) (outside_both c.loop-p.invariant.frame c.insert.ensures.frame) c.requires.0 c.requires.1 in n.item

pub overflow_add-p : goal.overflow_add-p
overflow_add-p c =
    let n = gather_next c.loop-p.invariant (omega arith) (outside_both c.loop-p.invariant.frame c.insert.ensures.frame) c.requires.0 c.requires.1 in omega (arith, c.length_of-p.ensures.is)

pub loop-p-smaller : goal.loop-p-smaller
loop-p-smaller c =
    let n = gather_next c.loop-p.invariant (omega arith) (outside_both c.loop-p.invariant.frame c.insert.ensures.frame) c.requires.0 c.requires.1 in omega (arith, c.length_of-p.ensures.is)

pub loop-p-preserved : goal.loop-p-preserved
loop-p-preserved c =
    let n = gather_next c.loop-p.invariant (omega arith) (outside_both c.loop-p.invariant.frame c.insert.ensures.frame) c.requires.0 c.requires.1 in gather_on c.loop-p.invariant insert_law (omega arith) c.requires.1.apart (insert_step c.insert.ensures) c.in_ok-insert.was _ (c.length_of-p.ensures.is ∙ n.word_same)

pub shape_of-s : goal.shape_of-s
shape_of-s c = c.loop-p.invariant.frame.long

pub returns : goal.returns
returns c = gather_end c.loop-p.invariant refl (omega arith)
