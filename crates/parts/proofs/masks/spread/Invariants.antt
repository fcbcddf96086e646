use Rattle.parts.proofs.Choosing.{Sharing}
use Rattle.parts.proofs.masks.spread.Given as goal

abbrev pub invariant-loop-i : goal.invariant-loop-i
invariant-loop-i l = Sharing l.m l.d l.i l.dealt
