use Rattle.lists.proofs.Moving.{Looking}
use Rattle.lists.proofs.advance.Given as goal

abbrev pub invariant-loop-i : goal.invariant-loop-i
invariant-loop-i l = Looking l.initial.run l.run l.i
