use Rattle.bindings.proofs.Windows.{UnderInv}
use Rattle.bindings.proofs.under.Given as goal

abbrev pub invariant-loop-left : goal.invariant-loop-left
invariant-loop-left l = UnderInv l.s l.to l.k l.initial.words l.initial.at l.initial.left l.words l.at l.left l.x

abbrev pub decreases-loop-left : goal.decreases-loop-left
decreases-loop-left l = l.left
