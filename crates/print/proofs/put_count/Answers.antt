-- `put_count` meets its contract.
use native.Mathlib.Omega.{arith}
use Rattle.print.proofs.Writing.{wrote_byte, wrote_length}
use Rattle.print.proofs.Decimals.{decimal_any}
use Rattle.print.proofs.put_count.Goals as goal

pub put_number-end-requires : goal.put_number-end-requires
put_number-end-requires c = omega (arith, decimal_any c.args.n (omega arith))

pub bounds-out-end : goal.bounds-out-end
bounds-out-end c =
    omega (arith, decimal_any c.args.n (omega arith), c.put_number-end.ensures.ends, wrote_length c.put_number-end.ensures)

pub overflow_add-result : goal.overflow_add-result
overflow_add-result c = omega (arith, decimal_any c.args.n (omega arith), c.put_number-end.ensures.ends)

pub returns : goal.returns
returns c = wrote_byte 10 c.put_number-end.ensures
