-- The pattern, the set or value and the third operand, and then the bodies, one after the other.
use mathlib.Core.Path.{refl, ◌∙◌}
use native.Mathlib.Omega.{arith}
use Rattle.checking.proofs.Gathering.{gathers_end, ask_operand, operand_more, operand_stops, kind_most, binder_is, binder_names, binder_start}
use Rattle.checking.proofs.sweep.bind.Goals as goal

pub names_of-names-requires : goal.names_of-names-requires
names_of-names-requires c =
    omega (arith, c.requires.0.ask.here.within, c.requires.0.ask.here.few)

pub role_of-role-requires : goal.role_of-role-requires
role_of-role-requires c =
    (kind_most c.requires.0, omega (arith, (binder_is c.requires.0 c.requires.1).some_roles))

pub add_operand-requires : goal.add_operand-requires
add_operand-requires c =
    let names = binder_names c.requires.0 c.requires.1 c.operand_from-p.ensures.0 c.names_of-names.ensures in
    let none = binder_start c.requires.0 c.requires.1 names c.choice.ensures refl in
    ask_operand c.operand_from-p.result c.requires.0.ask.here none c.operand_from-p.ensures.1

pub returns-in_err-s : goal.returns-in_err-s
returns-in_err-s c =
    let names = binder_names c.requires.0 c.requires.1 c.operand_from-p.ensures.0 c.names_of-names.ensures in
    let none = binder_start c.requires.0 c.requires.1 names c.choice.ensures refl in
    rw c.from_residual.ensures
    (operand_stops c.requires.0 names none (omega (arith, (binder_is c.requires.0 c.requires.1).some_named)) c.operand_from-p.ensures.0 c.operand_from-p.ensures.1 (c.role_of-role.ensures ∙ (binder_is c.requires.0 c.requires.1).role 0) c.in_err-s.ensures)

pub add_operand-requires-2 : goal.add_operand-requires-2
add_operand-requires-2 c =
    let names = binder_names c.requires.0 c.requires.1 c.operand_from-p.ensures.0 c.names_of-names.ensures in
    let none = binder_start c.requires.0 c.requires.1 names c.choice.ensures refl in
    let one = operand_more c.requires.0 names none (omega (arith, (binder_is c.requires.0 c.requires.1).some_named)) c.operand_from-p.ensures.0 c.operand_from-p.ensures.1 (c.role_of-role.ensures ∙ (binder_is c.requires.0 c.requires.1).role 0) c.in_ok-s.ensures in
    ask_operand c.operand_from-n.result c.requires.0.ask.here one c.operand_from-n.ensures.1

pub returns-in_err-s-2 : goal.returns-in_err-s-2
returns-in_err-s-2 c =
    let names = binder_names c.requires.0 c.requires.1 c.operand_from-p.ensures.0 c.names_of-names.ensures in
    let none = binder_start c.requires.0 c.requires.1 names c.choice.ensures refl in
    let one = operand_more c.requires.0 names none (omega (arith, (binder_is c.requires.0 c.requires.1).some_named)) c.operand_from-p.ensures.0 c.operand_from-p.ensures.1 (c.role_of-role.ensures ∙ (binder_is c.requires.0 c.requires.1).role 0) c.in_ok-s.ensures in
    rw c.from_residual-in_err-s-2.ensures
    (operand_stops c.requires.0 names one (omega (arith, (binder_is c.requires.0 c.requires.1).some_named)) c.operand_from-n.ensures.0 c.operand_from-n.ensures.1 (binder_is c.requires.0 c.requires.1).second c.in_err-s-2.ensures)

pub role_of-role-requires-2 : goal.role_of-role-requires-2
role_of-role-requires-2 c =
    (kind_most c.requires.0, omega (arith, (binder_is c.requires.0 c.requires.1).some_roles))

pub add_operand-requires-3 : goal.add_operand-requires-3
add_operand-requires-3 c =
    let names = binder_names c.requires.0 c.requires.1 c.operand_from-p.ensures.0 c.names_of-names.ensures in
    let none = binder_start c.requires.0 c.requires.1 names c.choice.ensures refl in
    let one = operand_more c.requires.0 names none (omega (arith, (binder_is c.requires.0 c.requires.1).some_named)) c.operand_from-p.ensures.0 c.operand_from-p.ensures.1 (c.role_of-role.ensures ∙ (binder_is c.requires.0 c.requires.1).role 0) c.in_ok-s.ensures in
    let two = operand_more c.requires.0 names one (omega (arith, (binder_is c.requires.0 c.requires.1).some_named)) c.operand_from-n.ensures.0 c.operand_from-n.ensures.1 (binder_is c.requires.0 c.requires.1).second c.in_ok-s-2.ensures in
    ask_operand c.operand_from-n-2.result c.requires.0.ask.here two c.operand_from-n-2.ensures.1

pub returns-in_err-s-3 : goal.returns-in_err-s-3
returns-in_err-s-3 c =
    let names = binder_names c.requires.0 c.requires.1 c.operand_from-p.ensures.0 c.names_of-names.ensures in
    let none = binder_start c.requires.0 c.requires.1 names c.choice.ensures refl in
    let one = operand_more c.requires.0 names none (omega (arith, (binder_is c.requires.0 c.requires.1).some_named)) c.operand_from-p.ensures.0 c.operand_from-p.ensures.1 (c.role_of-role.ensures ∙ (binder_is c.requires.0 c.requires.1).role 0) c.in_ok-s.ensures in
    let two = operand_more c.requires.0 names one (omega (arith, (binder_is c.requires.0 c.requires.1).some_named)) c.operand_from-n.ensures.0 c.operand_from-n.ensures.1 (binder_is c.requires.0 c.requires.1).second c.in_ok-s-2.ensures in
    rw c.from_residual-in_err-s-3.ensures
    (operand_stops c.requires.0 names two (omega (arith, (binder_is c.requires.0 c.requires.1).some_named)) c.operand_from-n-2.ensures.0 c.operand_from-n-2.ensures.1 (c.role_of-role-2.ensures ∙ (binder_is c.requires.0 c.requires.1).role 2) c.in_err-s-3.ensures)

pub loop-i-init : goal.loop-i-init
loop-i-init c =
    let names = binder_names c.requires.0 c.requires.1 c.operand_from-p.ensures.0 c.names_of-names.ensures in
    let none = binder_start c.requires.0 c.requires.1 names c.choice.ensures refl in
    let one = operand_more c.requires.0 names none (omega (arith, (binder_is c.requires.0 c.requires.1).some_named)) c.operand_from-p.ensures.0 c.operand_from-p.ensures.1 (c.role_of-role.ensures ∙ (binder_is c.requires.0 c.requires.1).role 0) c.in_ok-s.ensures in
    let two = operand_more c.requires.0 names one (omega (arith, (binder_is c.requires.0 c.requires.1).some_named)) c.operand_from-n.ensures.0 c.operand_from-n.ensures.1 (binder_is c.requires.0 c.requires.1).second c.in_ok-s-2.ensures in
    let three = operand_more c.requires.0 names two (omega (arith, (binder_is c.requires.0 c.requires.1).some_named)) c.operand_from-n-2.ensures.0 c.operand_from-n-2.ensures.1 (c.role_of-role-2.ensures ∙ (binder_is c.requires.0 c.requires.1).role 2) c.in_ok-s-3.ensures in
    (omega arith, three)

pub add_operand-requires-in-loop-i : goal.add_operand-requires-in-loop-i
add_operand-requires-in-loop-i c =
    ask_operand c.operand_from-n-in-loop-i.result c.requires.0.ask.here c.loop-i.invariant.1 c.operand_from-n-in-loop-i.ensures.1

pub returns-in_err-s-4 : goal.returns-in_err-s-4
returns-in_err-s-4 c =
    let names = binder_names c.requires.0 c.requires.1 c.operand_from-p.ensures.0 c.names_of-names.ensures in
    rw c.from_residual-in_err-s-4.ensures (operand_stops c.requires.0 names c.loop-i.invariant.1 (omega (arith, c.loop-i-test.true, c.operands_from-count.ensures.0)) c.operand_from-n-in-loop-i.ensures.0 c.operand_from-n-in-loop-i.ensures.1 ((binder_is c.requires.0 c.requires.1).body c.loop-i.i c.loop-i.invariant.0 (omega (arith, c.loop-i-test.true, c.operands_from-count.ensures.0))) c.in_err-s-4.ensures)

pub loop-i-preserved : goal.loop-i-preserved
loop-i-preserved c =
    let names = binder_names c.requires.0 c.requires.1 c.operand_from-p.ensures.0 c.names_of-names.ensures in
    (omega (arith, c.loop-i.invariant.0), operand_more c.requires.0 names c.loop-i.invariant.1 (omega (arith, c.loop-i-test.true, c.operands_from-count.ensures.0)) c.operand_from-n-in-loop-i.ensures.0 c.operand_from-n-in-loop-i.ensures.1 ((binder_is c.requires.0 c.requires.1).body c.loop-i.i c.loop-i.invariant.0 (omega (arith, c.loop-i-test.true, c.operands_from-count.ensures.0))) c.in_ok-s-4.ensures)

pub returns : goal.returns
returns c =
    let names = binder_names c.requires.0 c.requires.1 c.operand_from-p.ensures.0 c.names_of-names.ensures in
    gathers_end c.requires.0.ask.here.within names ((binder_is c.requires.0 c.requires.1).free c.names_of-names.result) c.loop-i.invariant.1 (omega (arith, c.loop-i-test.false, c.operands_from-count.ensures.0))

pub operand_from-p-requires : goal.operand_from-p-requires
operand_from-p-requires c =
    (record { here = c.requires.0.ask.here.within; has = omega (arith, (binder_is c.requires.0 c.requires.1).some_named) }, (binder_is c.requires.0 c.requires.1).first)

pub operand_from-n-requires : goal.operand_from-n-requires
operand_from-n-requires c =
    (record { here = c.requires.0.ask.here.within; has = omega (arith, (binder_is c.requires.0 c.requires.1).some_named) }, (binder_is c.requires.0 c.requires.1).first)

pub operand_from-n-requires-2 : goal.operand_from-n-requires-2
operand_from-n-requires-2 c =
    (record { here = c.requires.0.ask.here.within; has = omega (arith, (binder_is c.requires.0 c.requires.1).some_named) }, (binder_is c.requires.0 c.requires.1).first)

pub operands_from-count-requires : goal.operands_from-count-requires
operands_from-count-requires c =
    (c.requires.0.ask.here.within, (binder_is c.requires.0 c.requires.1).first)

pub operand_from-n-requires-in-loop-i : goal.operand_from-n-requires-in-loop-i
operand_from-n-requires-in-loop-i c =
    (record { here = c.requires.0.ask.here.within; has = omega (arith, c.loop-i-test.true, c.operands_from-count.ensures.0) }, (binder_is c.requires.0 c.requires.1).first)
