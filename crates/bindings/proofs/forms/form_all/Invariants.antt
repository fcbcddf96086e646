use Rattle.bindings.proofs.Telling.{AllSoFar}
use Prim.Native.Nat.{◌-◌}
use Rattle.bindings.proofs.forms.form_all.Given as goal

abbrev pub invariant-loop-at : goal.invariant-loop-at
invariant-loop-at l = AllSoFar l.sheet l.p l.s l.from l.to l.initial.agenda l.agenda l.rows l.order l.n l.at

abbrev pub decreases-loop-at : goal.decreases-loop-at
decreases-loop-at l = l.to - l.at
