-- `put_integer` meets its contract, by its test of the sign.
use mathlib.Core.Path.{◌≡◌, sym, ap, ◌∙◌}
use mathlib.Core.List.{List, ◌∷◌}
use Prim.Native.Nat.{ℕ, suc, ◌+◌}
use native.Mathlib.Omega.{arith}
use lib.IntN.{ℤ, negsuc}
use lib.ListN.{length, set, length-set}
use Rattle.print.specs.Ascii.{hyphen}
use Rattle.print.specs.Text.{decimal, integer_text}
use Rattle.print.specs.Contract.{Room}
use Rattle.print.proofs.Writing.{wrote_as, wrote_after, wrote_length}
use Rattle.print.proofs.Signs.{Below, NotBelow, below, not-below}
use Rattle.print.proofs.put_integer.Goals as goal

-- the digits of its size, after the sign
below_text : {z : ℤ} {k : ℕ} → z ≡ negsuc k → hyphen ∷ decimal (k + 1) ≡ integer_text z
below_text {z} {k} e = let f : k + 1 ≡ suc k = omega arith in ap (λ (n : ℕ). hyphen ∷ decimal n) f ∙ ap integer_text (sym e)

room_below : {z : ℤ} {k : ℕ} (out : List ℕ) (at : ℕ) → z ≡ negsuc k → Room out at (integer_text z) → Room (set out at hyphen) (at + 1) (decimal (k + 1))
room_below out at e h = let f = ap length (below_text e) in omega (arith, length-set out at hyphen)

pub bounds-out-at : goal.bounds-out-at
bounds-out-at c =
    let low : Below c.args.z = below c.args.z c.ranges.z c.if-z-lt0.true in
    let n = low in omega (arith, ap (λ (y : ℤ). length (integer_text y)) n.is)

pub overflow_sub-z : goal.overflow_sub-z
overflow_sub-z c =
    let low : Below c.args.z = below c.args.z c.ranges.z c.if-z-lt0.true in
    let n = low in rw n.down (record { sfits = n.low })

pub overflow_cast-z : goal.overflow_cast-z
overflow_cast-z c =
    let low : Below c.args.z = below c.args.z c.ranges.z c.if-z-lt0.true in
    let n = low in rw n.back (tt, omega arith)

pub overflow_add-z : goal.overflow_add-z
overflow_add-z c =
    let low : Below c.args.z = below c.args.z c.ranges.z c.if-z-lt0.true in
    let n = low in rw n.back (omega arith)

pub put_number-requires : goal.put_number-requires
put_number-requires c =
    let low : Below c.args.z = below c.args.z c.ranges.z c.if-z-lt0.true in
    let n = low in rw n.back (room_below c.args.out.now c.args.at n.is c.requires)

pub shape_of-out-then-z-lt0 : goal.shape_of-out-then-z-lt0
shape_of-out-then-z-lt0 c = wrote_length c.put_number.ensures ∙ length-set c.args.out.now c.args.at 45

pub returns-then-z-lt0 : goal.returns-then-z-lt0
returns-then-z-lt0 c =
    let low : Below c.args.z = below c.args.z c.ranges.z c.if-z-lt0.true in
    let n = low in wrote_as (below_text n.is) (wrote_after 45 (rw n.back at c.put_number.ensures))

pub overflow_cast-z-2 : goal.overflow_cast-z-2
overflow_cast-z-2 c =
    let high : NotBelow c.args.z = not-below c.args.z c.ranges.z c.if-z-lt0.false in
    let n = high in rw n.back (tt, omega arith)

pub put_number-requires-2 : goal.put_number-requires-2
put_number-requires-2 c =
    let high : NotBelow c.args.z = not-below c.args.z c.ranges.z c.if-z-lt0.false in
    let n = high in rw n.back (omega (arith, ap (λ (y : ℤ). length (integer_text y)) n.is))

pub returns : goal.returns
returns c =
    let high : NotBelow c.args.z = not-below c.args.z c.ranges.z c.if-z-lt0.false in
    let n = high in wrote_as (ap integer_text (sym n.is)) (rw n.back at c.put_number-2.ensures)
