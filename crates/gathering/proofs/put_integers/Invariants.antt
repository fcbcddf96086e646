use Rattle.gathering.specs.Consecutive.{PutIntegers}
use Rattle.gathering.proofs.put_integers.Given as goal

abbrev pub invariant-loop-i : goal.invariant-loop-i
invariant-loop-i l = PutIntegers l.initial.s l.s l.at l.from l.i
