-- `enter_all` meets its contract: what is left of the first map, entered into by what is made of the second, is the whole.
use mathlib.Core.Path.{refl, sym, ◌∙◌}
use native.Mathlib.Omega.{arith}
use Rattle.values.proofs.Records.{holds, uncons}
use Rattle.map_operators.proofs.Overriding.{over_start, over_next, over_room, told_full, told_not_full, over_full, over-step, over_copyable, over_end}
use Rattle.map_operators.proofs.enter_all.Goals as goal

pub length_of-requires : goal.length_of-requires
length_of-requires c = holds c.requires.left.here

pub overflow_add-end : goal.overflow_add-end
overflow_add-end c = omega arith

pub overflow_add-p : goal.overflow_add-p
overflow_add-p c = omega arith

pub loop-p-init : goal.loop-p-init
loop-p-init c = over_start c.length_of.ensures.is c.requires

pub length_of-requires-in-loop-p : goal.length_of-requires-in-loop-p
length_of-requires-in-loop-p c = holds (uncons (omega arith) c.loop-p.invariant.rest_at).first-at

pub overflow_add-v : goal.overflow_add-v
overflow_add-v c =
    let y = over_next c.loop-p.invariant (omega arith) c.length_of-in-loop-p.ensures.is refl in let f = y.rest_at.fits in omega arith

pub length_of-requires-in-loop-p-2 : goal.length_of-requires-in-loop-p-2
length_of-requires-in-loop-p-2 c = holds (over_next c.loop-p.invariant (omega arith) c.length_of-in-loop-p.ensures.is refl).value_at

pub overflow_add-next : goal.overflow_add-next
overflow_add-next c =
    let y = over_next c.loop-p.invariant (omega arith) c.length_of-in-loop-p.ensures.is c.length_of-in-loop-p-2.ensures.is in let f = y.rest_at.fits in omega arith

pub overflow_add-base : goal.overflow_add-base
overflow_add-base c = omega arith

pub enter-entered-requires : goal.enter-entered-requires
enter-entered-requires c =
    over_room c.loop-p.invariant (omega arith) c.length_of-in-loop-p.ensures.is c.length_of-in-loop-p-2.ensures.is

pub overflow_add-base-2 : goal.overflow_add-base-2
overflow_add-base-2 c = omega arith

pub copy_value-requires : goal.copy_value-requires
copy_value-requires c = over_copyable c.loop-p.invariant

pub shape_of-s : goal.shape_of-s
shape_of-s c = omega arith

pub returns : goal.returns
returns c = over_end c.loop-p.invariant (omega arith) c.copy_value.ensures

pub returns-then-eq : goal.returns-then-eq
returns-then-eq c =
    rw (told_full c.enter-entered.result (sym c.eq.ensures ∙ c.if-eq.true)) (over_full c.loop-p.invariant (over_next c.loop-p.invariant (omega arith) c.length_of-in-loop-p.ensures.is c.length_of-in-loop-p-2.ensures.is) c.enter-entered.ensures (told_full _ (sym c.eq.ensures ∙ c.if-eq.true)))

pub loop-p-preserved : goal.loop-p-preserved
loop-p-preserved c =
    over-step c.loop-p.invariant (over_next c.loop-p.invariant (omega arith) c.length_of-in-loop-p.ensures.is c.length_of-in-loop-p-2.ensures.is) c.enter-entered.ensures (told_not_full _ (sym c.eq.ensures ∙ c.if-eq.false))
