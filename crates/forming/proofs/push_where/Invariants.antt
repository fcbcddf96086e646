use Rattle.parts.specs.Word.{unpacked}
use Rattle.forming.proofs.Pushing.{PushSoFar}
use Rattle.forming.proofs.push_where.Given as goal

abbrev pub invariant-loop-i : goal.invariant-loop-i
invariant-loop-i l = PushSoFar l.sheet l.p l.s (unpacked l.word) l.d l.initial.agenda l.next l.top l.bits l.bit l.agenda l.head l.i l.to
