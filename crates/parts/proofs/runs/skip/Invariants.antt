use Rattle.parts.proofs.Running.{Passing}
use Rattle.parts.proofs.runs.skip.Given as goal

abbrev pub invariant-loop-i : goal.invariant-loop-i
invariant-loop-i l = Passing l.s l.initial.r l.r l._i l.k
