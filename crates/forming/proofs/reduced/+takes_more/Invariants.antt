use Rattle.forming.proofs.reduced.+takes_more.Given as goal

abbrev pub decreases-takes_more : goal.decreases-takes_more
decreases-takes_more l = l.p
