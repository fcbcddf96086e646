-- `put_quote` meets its contract: one byte, the digits, and one byte.
use native.Mathlib.Omega.{arith}
use lib.ListN.{length-append, length-set}
use mathlib.Core.List.{[], ◌∷◌}
use Rattle.print.specs.Text.{decimal}
use Rattle.print.proofs.Writing.{wrote_byte, wrote_after, wrote_length}
use Rattle.print.proofs.put_quote.Goals as goal

pub bounds-out-at : goal.bounds-out-at
bounds-out-at c = omega (arith, length-append (decimal c.args.n) (62 ∷ []))

pub put_number-end-requires : goal.put_number-end-requires
put_number-end-requires c = omega (arith, length-append (decimal c.args.n) (62 ∷ []), length-set c.args.out.now c.args.at 60)

pub bounds-out-end : goal.bounds-out-end
bounds-out-end c =
    omega (arith, length-append (decimal c.args.n) (62 ∷ []), length-set c.args.out.now c.args.at 60, c.put_number-end.ensures.ends, wrote_length c.put_number-end.ensures)

pub overflow_add-result : goal.overflow_add-result
overflow_add-result c =
    omega (arith, length-append (decimal c.args.n) (62 ∷ []), length-set c.args.out.now c.args.at 60, c.put_number-end.ensures.ends)

pub shape_of-out : goal.shape_of-out
shape_of-out c = wrote_length {s = c.args.out.now} (wrote_byte 62 (wrote_after 60 c.put_number-end.ensures))

pub returns : goal.returns
returns c = wrote_byte 62 (wrote_after 60 c.put_number-end.ensures)
