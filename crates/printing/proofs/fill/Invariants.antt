use Prim.Native.Nat.{◌-◌}
use Rattle.print.specs.Print.{most_lines}
use Rattle.printing.proofs.Filling.{Filling}
use Rattle.printing.proofs.fill.Given as goal

abbrev pub invariant-loop-q : goal.invariant-loop-q
invariant-loop-q l = Filling l.sheet l.count l.s l.run l.out l.initial.out l.initial.q l.q

abbrev pub decreases-loop-q : goal.decreases-loop-q
decreases-loop-q l = most_lines - l.q.lists
