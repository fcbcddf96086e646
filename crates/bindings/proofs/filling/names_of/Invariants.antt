use Rattle.bindings.specs.Filling.{row_words}
use Rattle.bindings.proofs.Writing.{NamesSoFar}
use Rattle.bindings.proofs.filling.names_of.Given as goal

abbrev pub invariant-loop-x : goal.invariant-loop-x
invariant-loop-x l = NamesSoFar (row_words l.rows l.r) l.x l.mask l.width
