use Rattle.values.proofs.Copying.{Copying}
use Rattle.values.proofs.copy_apart.Given as goal

abbrev pub invariant-loop-i : goal.invariant-loop-i
invariant-loop-i l = Copying l.initial.s l.from l.to l.n l.s l.i
