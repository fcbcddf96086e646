-- `len` meets its contract.
use native.Mathlib.Omega.{arith}
use Rattle.sequence_operators.proofs.Counts.{count_fits, count_range, len_done}
use Rattle.sequence_operators.proofs.len.Goals as goal

pub overflow_cast-n : goal.overflow_cast-n
overflow_cast-n c = count_fits c.requires c.count_of-n.ensures

pub put_integer-requires : goal.put_integer-requires
put_integer-requires c = (omega arith, count_range c.requires c.count_of-n.ensures)

pub returns : goal.returns
returns c = len_done c.requires c.count_of-n.ensures c.put_integer.ensures
