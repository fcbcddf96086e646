use Rattle.forming.specs.Reduced.{Reduced}
use Rattle.forming.proofs.reduced.reduced.Given as goal

abbrev pub invariant-loop-q : goal.invariant-loop-q
invariant-loop-q l = Reduced l.sheet l.p l.q

abbrev pub decreases-loop-q : goal.decreases-loop-q
decreases-loop-q l = l.last
