use Rattle.bindings.proofs.Writing.{FillSoFar}
use Rattle.bindings.proofs.filling.fill.Given as goal

abbrev pub invariant-loop-j : goal.invariant-loop-j
invariant-loop-j l = FillSoFar l.initial.s l.s l.to l.rows l.order l.c l.j l.out
