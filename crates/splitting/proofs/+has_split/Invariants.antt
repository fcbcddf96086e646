use Rattle.splitting.proofs.Telling.{NoSplitTo}
use Rattle.splitting.proofs.+has_split.Given as goal

abbrev pub decreases-has_split : goal.decreases-has_split
decreases-has_split l = l.p

abbrev pub invariant-loop-i : goal.invariant-loop-i
invariant-loop-i l = NoSplitTo l.sheet l.p l.i
