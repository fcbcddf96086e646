use Rattle.matching.proofs.nodes.+unit_at.Given as goal

abbrev pub decreases-unit_at : goal.decreases-unit_at
decreases-unit_at l = l.n
