-- `set_operators::members::choose` meets its contract: those put there, with those left that will be, are all that are chosen.
use mathlib.Core.Path.{◌∙◌}
use native.Mathlib.Omega.{arith}
use Rattle.values.proofs.Records.{holds}
use Rattle.values.proofs.Frame.{outside_both}
use Rattle.set_operators.proofs.Choosing.{choose_begin, end_still, choose_next, choose_test, choose_room, as_wanted_lem, choose_on, choose_built, choose_close}
use Rattle.set_operators.proofs.members.choose.Goals as goal

pub length_of-requires : goal.length_of-requires
length_of-requires c = holds c.requires.held.here

pub overflow_add-end : goal.overflow_add-end
overflow_add-end c = let h = holds c.requires.held.here in omega arith

pub overflow_add-p : goal.overflow_add-p
overflow_add-p c = let h = holds c.requires.held.here in omega arith

pub loop-p-init : goal.loop-p-init
loop-p-init c =
    (end_still c.requires c.put_empty.ensures c.length_of.ensures.is, choose_begin _ c.requires c.put_empty.ensures)

pub in_all-found-requires : goal.in_all-found-requires
in_all-found-requires c = choose_test c.loop-p.invariant.1 (omega arith)

pub append_if-requires : goal.append_if-requires
append_if-requires c = choose_room c.loop-p.invariant.1 (omega arith)

pub length_of-p-requires : goal.length_of-p-requires
length_of-p-requires c =
    let n = choose_next c.loop-p.invariant.1 (omega arith) (outside_both c.loop-p.invariant.1.frame c.append_if.ensures.frame) in n.item

pub overflow_add-p-in-loop-p : goal.overflow_add-p-in-loop-p
overflow_add-p-in-loop-p c =
    let n = choose_next c.loop-p.invariant.1 (omega arith) (outside_both c.loop-p.invariant.1.frame c.append_if.ensures.frame) in omega (arith, c.length_of-p.ensures.is)

pub loop-p-smaller : goal.loop-p-smaller
loop-p-smaller c =
    let n = choose_next c.loop-p.invariant.1 (omega arith) (outside_both c.loop-p.invariant.1.frame c.append_if.ensures.frame) in omega (arith, c.length_of-p.ensures.is)

pub loop-p-preserved : goal.loop-p-preserved
loop-p-preserved c =
    let n = choose_next c.loop-p.invariant.1 (omega arith) (outside_both c.loop-p.invariant.1.frame c.append_if.ensures.frame) in (c.loop-p.invariant.0, choose_on c.loop-p.invariant.1 (omega arith) c.in_all-found.ensures (as_wanted_lem c.in_all-found.result c.args.wanted) c.append_if.ensures _ (c.length_of-p.ensures.is ∙ n.word_same))

pub retag-requires : goal.retag-requires
retag-requires c = (choose_built c.loop-p.invariant.1, omega arith)

pub returns : goal.returns
returns c = choose_close c.requires c.put_empty.ensures c.loop-p.invariant.1 (omega arith) c.retag.ensures
