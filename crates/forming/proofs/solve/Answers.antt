use native.Mathlib.Omega.{arith}
use Rattle.forming.proofs.Returning.{entry_alone, solved_alone}
use Rattle.forming.proofs.solve.Goals as goal

pub insert_row-requires : goal.insert_row-requires
insert_row-requires c = entry_alone _ _ _ _ _ _ _ _ _ c.requires.0

pub returns-then-head-eq0 : goal.returns-then-head-eq0
returns-then-head-eq0 c = solved_alone _ _ _ _ _ _ _ _ _ (omega arith) _ _ _ c.insert_row.ensures

pub new-sheet-requires : goal.new-sheet-requires
new-sheet-requires c = c.requires.1 (omega arith)
