use Rattle.forming.proofs.reduced.+accepts_all.Given as goal

abbrev pub decreases-accepts_all : goal.decreases-accepts_all
decreases-accepts_all l = l.p
