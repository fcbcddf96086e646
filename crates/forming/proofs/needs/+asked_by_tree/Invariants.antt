use Rattle.forming.proofs.needs.+asked_by_tree.Given as goal

abbrev pub decreases-asked_by_tree : goal.decreases-asked_by_tree
decreases-asked_by_tree l = l.p
