-- `set_operators::members::insert_each` meets its contract: what the set has, with what is left, is what it will have.
use mathlib.Core.Path.{refl, ◌∙◌}
use native.Mathlib.Omega.{arith}
use Rattle.operators.specs.Gather.{flatten}
use Rattle.calling.proofs.Answering.{passed_up}
use Rattle.set_operators.proofs.Testing.{sets_start, sets_on}
use Rattle.gathering.proofs.Growth.{gather_start, gather_on, gather_full, gather_end}
use Rattle.set_operators.proofs.Flattening.{flatten_law, each_next, each_room, each_step}
use Rattle.set_operators.proofs.members.insert_each.Goals as goal

pub loop-p-init : goal.loop-p-init
loop-p-init c = (gather_start flatten _ _ _ _, sets_start)

pub length_of-n-requires : goal.length_of-n-requires
length_of-n-requires c =
    (each_next c.loop-p.invariant.0 c.loop-p.invariant.1 (omega arith) c.requires.0 c.requires.1 c.loop-p.invariant.0.frame).item

pub overflow_add-p : goal.overflow_add-p
overflow_add-p c =
    let n = each_next c.loop-p.invariant.0 c.loop-p.invariant.1 (omega arith) c.requires.0 c.requires.1 c.loop-p.invariant.0.frame in omega (arith, c.length_of-n.ensures.is)

pub overflow_add-p-in-loop-p : goal.overflow_add-p-in-loop-p
overflow_add-p-in-loop-p c =
    let n = each_next c.loop-p.invariant.0 c.loop-p.invariant.1 (omega arith) c.requires.0 c.requires.1 c.loop-p.invariant.0.frame in omega (arith, c.length_of-n.ensures.is)

pub insert_all-requires : goal.insert_all-requires
insert_all-requires c =
    each_room c.loop-p.invariant.0 c.loop-p.invariant.1 (omega arith) c.requires.0 c.requires.1 _ c.length_of-n.ensures.is

pub returns-in_err-insert_all : goal.returns-in_err-insert_all
returns-in_err-insert_all c =
    rw (passed_up c.from_residual.result c.from_residual.ensures.1)
    (gather_full c.loop-p.invariant.0 flatten_law (omega arith) c.requires.1.apart (each_step c.loop-p.invariant.0 c.loop-p.invariant.1 (omega arith) c.requires.0 c.requires.1 _ c.length_of-n.ensures.is c.insert_all.ensures) c.in_err-insert_all.was)

pub overflow_add-p-in-loop-p-2 : goal.overflow_add-p-in-loop-p-2
overflow_add-p-in-loop-p-2 c =
    let n = each_next c.loop-p.invariant.0 c.loop-p.invariant.1 (omega arith) c.requires.0 c.requires.1 c.loop-p.invariant.0.frame in omega (arith, c.length_of-n.ensures.is)

pub loop-p-smaller : goal.loop-p-smaller
loop-p-smaller c =
    let n = each_next c.loop-p.invariant.0 c.loop-p.invariant.1 (omega arith) c.requires.0 c.requires.1 c.loop-p.invariant.0.frame in omega (arith, c.length_of-n.ensures.is)

pub loop-p-preserved : goal.loop-p-preserved
loop-p-preserved c =
    let n = each_next c.loop-p.invariant.0 c.loop-p.invariant.1 (omega arith) c.requires.0 c.requires.1 c.loop-p.invariant.0.frame in let e = c.length_of-n.ensures.is ∙ n.word_same in (gather_on c.loop-p.invariant.0 flatten_law (omega arith) c.requires.1.apart (each_step c.loop-p.invariant.0 c.loop-p.invariant.1 (omega arith) c.requires.0 c.requires.1 _ c.length_of-n.ensures.is c.insert_all.ensures) c.in_ok-insert_all.was _ e, sets_on c.loop-p.invariant.1 (omega arith) _ e)

pub shape_of-s : goal.shape_of-s
shape_of-s c = c.loop-p.invariant.0.frame.long

pub returns : goal.returns
unfolding flatten
returns c = gather_end c.loop-p.invariant.0 refl (omega arith)
