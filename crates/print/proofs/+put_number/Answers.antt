-- `put_number` meets its contract: the last digit stands after those of the tenth. The measure is the number.
use mathlib.Core.Path.{sym}
use Prim.Native.Nat.{◌+◌, ◌%◌}
use native.Mathlib.Omega.{arith}
use Rattle.print.proofs.Writing.{wrote_length, wrote_one, wrote_byte, wrote_as}
use Rattle.print.proofs.Decimals.{decimal_small, decimal_large, length_small, length_large}
use Rattle.print.proofs.+put_number.Goals as goal

pub overflow_cast-out : goal.overflow_cast-out
overflow_cast-out t c = omega arith

pub overflow_add-out : goal.overflow_add-out
overflow_add-out t c = omega arith

pub bounds-out-at : goal.bounds-out-at
bounds-out-at t c = omega (arith, length_small c.args.n c.if-n-lt10.true)

pub overflow_add-result : goal.overflow_add-result
overflow_add-result t c = omega (arith, length_small c.args.n c.if-n-lt10.true)

pub returns-then-n-lt10 : goal.returns-then-n-lt10
returns-then-n-lt10 t c =
    wrote_as (sym (decimal_small c.args.n c.if-n-lt10.true)) (wrote_one c.args.out.now c.args.at (48 + c.args.n))

pub put_number-last-requires : goal.put_number-last-requires
put_number-last-requires t c = (omega arith, omega (arith, length_large c.args.n c.if-n-lt10.false))

pub overflow_cast-out-2 : goal.overflow_cast-out-2
overflow_cast-out-2 t c = omega arith

pub overflow_add-out-2 : goal.overflow_add-out-2
overflow_add-out-2 t c = omega arith

pub bounds-out-last : goal.bounds-out-last
bounds-out-last t c =
    omega (arith, length_large c.args.n c.if-n-lt10.false, c.put_number-last.ensures.ends, wrote_length c.put_number-last.ensures)

pub overflow_add-result-2 : goal.overflow_add-result-2
overflow_add-result-2 t c = omega (arith, length_large c.args.n c.if-n-lt10.false, c.put_number-last.ensures.ends)

pub returns : goal.returns
returns t c =
    wrote_as (sym (decimal_large c.args.n c.if-n-lt10.false)) (wrote_byte (48 + c.args.n % 10) c.put_number-last.ensures)
