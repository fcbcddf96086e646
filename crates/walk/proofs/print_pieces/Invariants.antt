-- What comes next is to be written, and what came before is out.
use Prim.Native.Nat.{◌-◌}
use mathlib.Core.Path.{◌≡◌}
use lib.ListN.{length, take}
use Rattle.std.specs.Io.KnownBytes.{Appends}
use Rattle.print.specs.Print.{most_lines, print_of}
use Rattle.printing.specs.Contract.{Printing}
use Rattle.walk.proofs.print_pieces.Given as goal

abbrev pub invariant-loop-sent : goal.invariant-loop-sent
invariant-loop-sent g l = record {
  printing : Printing l.table l.count l.s l.run l.out l.sent l.p;
  same_length : length l.out ≡ length l.initial.out;
  bytes : Appends (g.W.Write.contents l.initial.output) (g.W.Write.contents l.output) (take l.sent (print_of l.table));
}

abbrev pub decreases-loop-sent : goal.decreases-loop-sent
decreases-loop-sent g l = most_lines - l.p.lists
