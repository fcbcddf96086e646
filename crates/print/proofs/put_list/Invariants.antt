use Rattle.print.proofs.Listing.{Listing}
use Rattle.print.proofs.put_list.Given as goal

abbrev pub invariant-loop-i : goal.invariant-loop-i
invariant-loop-i l = Listing l.list l.initial.out l.initial.end l.out l.end l.i
