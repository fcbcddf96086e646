use native.Mathlib.Omega.{arith}
use Rattle.bindings.proofs.cursor_over.Goals as goal

pub overflow_cast-r : goal.overflow_cast-r
overflow_cast-r c = omega (arith, c.requires.row (omega arith))

pub names_of-names-requires : goal.names_of-names-requires
names_of-names-requires c = record { low = c.requires.row (omega arith); wide = c.requires.wide }
