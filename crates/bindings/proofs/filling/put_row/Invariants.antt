use Rattle.bindings.specs.Filling.{row_words}
use Rattle.bindings.proofs.Writing.{RowSoFar}
use Rattle.bindings.proofs.filling.put_row.Given as goal

abbrev pub invariant-loop-left : goal.invariant-loop-left
invariant-loop-left l = RowSoFar l.initial.s l.s l.out (row_words l.rows l.r) l.mask l.left l.at l.x

abbrev pub decreases-loop-left : goal.decreases-loop-left
decreases-loop-left l = l.left
