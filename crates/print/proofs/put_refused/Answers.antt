-- `put_refused` meets its contract.
use mathlib.Core.Path.{◌≡◌}
use mathlib.Core.List.{List, [], ◌∷◌, ◌++◌, append_assoc}
use Prim.Native.Nat.{ℕ}
use native.Mathlib.Omega.{arith}
use lib.ListN.{length-set}
use Rattle.print.specs.Ascii.{ascii}
use Rattle.print.specs.Text.{decimal}
use Rattle.print.proofs.Writing.{wrote_then, wrote_byte, wrote_as, wrote_length}
use Rattle.print.proofs.Decimals.{decimal_any}
use Rattle.print.proofs.put_refused.Goals as goal

-- a number, a space, a number and the line's end
parted : (xs ys : List ℕ) (a b : ℕ) → (xs ++ a ∷ []) ++ (ys ++ b ∷ []) ≡ (xs ++ a ∷ ys) ++ b ∷ []
parted xs ys a b = simp append_assoc

pub put_number-end-requires : goal.put_number-end-requires
put_number-end-requires c =
    omega (arith, decimal_any c.args.number (omega arith), c.put_bytes-start.ensures.ends, wrote_length c.put_bytes-start.ensures)

pub bounds-out-end : goal.bounds-out-end
bounds-out-end c =
    omega (arith, decimal_any c.args.number (omega arith), c.put_bytes-start.ensures.ends, wrote_length c.put_bytes-start.ensures, c.put_number-end.ensures.ends, wrote_length c.put_number-end.ensures)

pub overflow_add-end : goal.overflow_add-end
overflow_add-end c =
    omega (arith, decimal_any c.args.number (omega arith), c.put_bytes-start.ensures.ends, wrote_length c.put_bytes-start.ensures, c.put_number-end.ensures.ends, wrote_length c.put_number-end.ensures)

pub put_count-requires : goal.put_count-requires
put_count-requires c =
    omega (arith, decimal_any c.args.number (omega arith), c.put_bytes-start.ensures.ends, wrote_length c.put_bytes-start.ensures, c.put_number-end.ensures.ends, wrote_length c.put_number-end.ensures, length-set c.put_number-end.new.out c.put_number-end.result 32)

pub shape_of-out : goal.shape_of-out
shape_of-out c =
    omega (arith, c.put_bytes-start.ensures.ends, wrote_length c.put_bytes-start.ensures, c.put_number-end.ensures.ends, wrote_length c.put_number-end.ensures, length-set c.put_number-end.new.out c.put_number-end.result 32, wrote_length c.put_count.ensures)

pub returns : goal.returns
returns c =
    wrote_as (parted (ascii "refused " ++ decimal c.args.number) (decimal c.args.place) 32 10) (wrote_then (wrote_byte 32 (wrote_then c.put_bytes-start.ensures c.put_number-end.ensures)) c.put_count.ensures)
