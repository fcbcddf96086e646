use Rattle.forming.proofs.Framing.{ClearedTo}
use Rattle.forming.proofs.masks.clear.Given as goal

abbrev pub invariant-loop-x : goal.invariant-loop-x
invariant-loop-x l = ClearedTo l.initial.found l.mask l.found l.left l.x
