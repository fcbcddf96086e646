-- The set range: how many integers there are from one to another, as the machine counts them.
use mathlib.Core.Path.{◌≡◌, refl, sym, ap, subst, ◌∙◌}
use mathlib.Core.Bool.{true, false}
use mathlib.Core.List.{List}
use Prim.Native.Nat.{ℕ, ◌+◌, ◌≤◌}
use native.Mathlib.Omega.{arith}
use borrow.Author.Tests.{ltb-true}
use lib.Dec.{T}
use lib.IntN.{ℤ, pos, negsuc, nat_abs, ◌+ℤ◌, ◌-ℤ◌}
use lib.ListN.{length}
use lib.Signed.{mag, lt_z, non_neg}
use mir.Syntax.{w32, w64}
use mir.Val.{Fits, SFits, to_z, of_z}
use mir.Facts.{to_z-of_z, sfits_widen}
use Rattle.prelude.proofs.Absurd.{never}
use Rattle.integers.proofs.Range.{range_fits}
use Rattle.integers.proofs.Parts.{up, down, parts_add, parts_minus}
use Rattle.values.specs.Value.{value_limit, SoundItems}
use Rattle.values.proofs.Records.{integer_range}
use Rattle.operators.specs.Gather.{up_from}
use Rattle.operators.specs.Sets.{as_count, how_many, consecutive, range_of}
use Rattle.operator_laws.proofs.Ranges.{sound_range}
use Rattle.calling.specs.Applied.{Applied}
use Rattle.std.specs.Prelude.{Ok}
use Rattle.calling.specs.Applied.{Gives, OnTwo}
use Rattle.calling.specs.Operands.{Pair, PairAt}
use Rattle.calling.proofs.Pairs.{machine, pair_left, pair_right, pair_gives}
use Rattle.gathering.specs.Consecutive.{CountingRoom}

-- ---- how many there are

-- an integer of 32 bits, widened to 64
abbrev wide : ℤ → ℤ
wide z = to_z w64 (of_z w64 (machine z))

pub widened_fits : {z : ℤ} → SFits w32 z → SFits w64 (machine z)
widened_fits f = rw (to_z-of_z f) (sfits_widen tt f)

wide_is : {z : ℤ} → SFits w32 z → wide z ≡ z
wide_is f = to_z-of_z (widened_fits f) ∙ to_z-of_z f

size_up : (z : ℤ) (a b : ℕ) → up z + a ≡ b + down z → mag z ≤ a + b
size_up (pos n) a b e = omega arith
size_up (negsuc n) a b e = omega arith

counted_up : (z : ℤ) (a b : ℕ) → up z + a ≡ b + down z → as_count z ≤ b
counted_up (pos n) a b e = omega arith
counted_up (negsuc n) a b e = omega arith

-- the two parts of an integer of 32 bits
parts_low : (z : ℤ) → SFits w32 z → (up z ≤ 2147483647) × (down z ≤ 2147483648)
parts_low (pos n) f = (omega arith, omega arith)
parts_low (negsuc n) f = (omega arith, omega arith)

module _ {from to : ℤ} (f : SFits w32 from) (t : SFits w32 to) where
  apart_is : wide to -ℤ wide from ≡ to -ℤ from
  apart_is = rw (wide_is t, wide_is f)

  apart_low : mag (to -ℤ from) ≤ 8589934592
  apart_low =
      let e = parts_minus to from in
      let l = size_up (to -ℤ from) (down to + up from) (up to + down from) (omega arith) in
      omega (arith, parts_low from f, parts_low to t)

  pub apart_fits : SFits w64 (wide to -ℤ wide from)
  apart_fits = rw apart_is (omega (arith, apart_low))

  sum_is : to_z w64 (of_z w64 (wide to -ℤ wide from)) +ℤ pos 1 ≡ to -ℤ from +ℤ pos 1
  sum_is = ap (λ (z : ℤ). z +ℤ pos 1) (to_z-of_z apart_fits ∙ apart_is)

  total_up : up (to -ℤ from +ℤ pos 1) + (down to + up from) ≡ up to + down from + 1 + down (to -ℤ from +ℤ pos 1)
  total_up = let e = parts_minus to from in let d = parts_add (to -ℤ from) (pos 1) in omega arith

  total_low : mag (to -ℤ from +ℤ pos 1) ≤ 8589934592
  total_low =
      let l = size_up (to -ℤ from +ℤ pos 1) (down to + up from) (up to + down from + 1) total_up in
      omega (arith, parts_low from f, parts_low to t)

  pub total_fits : SFits w64 (to -ℤ from +ℤ pos 1)
  total_fits = omega (arith, total_low)

  pub sum_fits : SFits w64 (to_z w64 (of_z w64 (wide to -ℤ wide from)) +ℤ pos 1)
  sum_fits = rw sum_is total_fits

  pub total-is : to_z w64 (of_z w64 (to_z w64 (of_z w64 (wide to -ℤ wide from)) +ℤ pos 1)) ≡ to -ℤ from +ℤ pos 1
  total-is = to_z-of_z sum_fits ∙ sum_is

  pub many : how_many from to ≤ 4294967296
  many = omega (arith, counted_up (to -ℤ from +ℤ pos 1) (down to + up from) (up to + down from + 1) total_up, parts_low from f, parts_low to t)

-- what the code finds of a number below 0, and of one that is not
pub counted_below : (z : ℤ) → lt_z z (pos 0) ≡ true → 0 ≡ as_count z
counted_below (pos n) e = absurd (omega (arith, ltb-true n 0 e))
counted_below (negsuc n) e = refl

pub record Counted (z : ℤ) : Type 0 where
  pub signed : T (non_neg z)
  pub fits : Fits w64 (nat_abs z)
  pub exact : nat_abs z ≡ as_count z

pub counted_other : (z : ℤ) → SFits w64 z → lt_z z (pos 0) ≡ false → Counted z
counted_other (pos n) f e = record { signed = tt; fits = omega arith; exact = refl }
counted_other (negsuc n) f e = never (sym e)

-- ---- from two integers that were read
module _ {s : List ℕ} {base : ℕ} {p : Pair} (read : PairAt s base p) {a b : ℤ} (e : p ≡ Ok (a, b)) {n : ℕ} (h : n ≡ how_many (machine a) (machine b)) where
  pub range_count : base + value_limit ≤ length s → CountingRoom s base (machine a) n
  range_count room =
      let f = integer_range (pair_left read e).fine in
      let g = integer_range (pair_right read e).fine in
      let m = many (range_fits (machine a) f) (range_fits (machine b) g) in
      record { room = room; few = omega arith; fine = subst (λ (k : ℕ). SoundItems (up_from (machine a) k)) (sym h) (sound_range (machine a) (machine b) f g) }

  pub range_gives : {t : List ℕ} {r : Applied} → Gives (consecutive (machine a) n) s t base r → OnTwo range_of s t base r
  range_gives = pair_gives read {f = range_of} e (ap (λ (k : ℕ). consecutive (machine a) k) (sym h))
