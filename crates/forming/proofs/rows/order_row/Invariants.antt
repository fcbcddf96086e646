use Rattle.forming.proofs.Rowing.{EvenRow}
use Rattle.forming.proofs.rows.order_row.Given as goal

abbrev pub invariant-loop-x : goal.invariant-loop-x
invariant-loop-x l = EvenRow l.s l.found l.rows l.r l.x
