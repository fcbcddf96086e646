use native.Mathlib.Omega.{arith}
use Rattle.forming.proofs.Rowing.{row_written}
use Rattle.forming.proofs.rows.put_row.Goals as goal

pub returns : goal.returns
returns c =
    row_written _ _ _ _ _ _ c.requires.1 c.requires.2 (omega arith) c.requires.0.1.sized c.copy_from_slice.ensures.after
