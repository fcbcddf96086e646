-- What the machine computes of integers: it reads each operand, and the result, from its bits, and loses nothing.
use mathlib.Core.Path.{◌≡◌, refl, sym, ap, ap₂, ◌∙◌, subst}
use mathlib.Core.Bool.{true, false}
use Prim.Native.Nat.{ℕ, ◌<◌}
use native.Mathlib.Omega.{arith}
use borrow.Author.Tests.{ltb-true}
use lib.IntN.{ℤ, pos, negsuc, neg_ℤ, nat_abs}
use lib.Signed.{lt_z, quot_z}
use mir.Syntax.{w32}
use mir.Val.{SFits, to_z, of_z}
use mir.Facts.{to_z-of_z}
use Rattle.prelude.proofs.Absurd.{never}
use Rattle.integers.specs.Whole.{div_ℤ, InRange}
use Rattle.integers.proofs.Range.{range_fits}

-- ---- what it computes at 32 bits, where the result is in range

-- an integer as the machine reads it
abbrev pub read : ℤ → ℤ
read x = to_z w32 (of_z w32 x)

-- a number that is the integer z is held by 32 bits, and read back it is z
module _ {x z : ℤ} (e : x ≡ z) (h : InRange z) where
  pub is_fits : SFits w32 x
  is_fits = subst (SFits w32) (sym e) (range_fits z h)

  pub is_read : read x ≡ z
  is_read = to_z-of_z is_fits ∙ e

-- an operation on two integers as the machine reads them
pub both_read : (f : ℤ → ℤ → ℤ) {x y : ℤ} → SFits w32 x → SFits w32 y → f (read x) (read y) ≡ f x y
both_read f fx fy = ap₂ f (to_z-of_z fx) (to_z-of_z fy)

-- ---- integers are tested at their bits

pub bits_is : {x y : ℤ} → SFits w32 x → SFits w32 y → of_z w32 x ≡ of_z w32 y → x ≡ y
bits_is fx fy e = sym (to_z-of_z fx) ∙ ap (to_z w32) e ∙ to_z-of_z fy

pub bits_not : {x y : ℤ} → (of_z w32 x ≡ of_z w32 y → ⊥) → x ≡ y → ⊥
bits_not n e = n (ap (of_z w32) e)

pub zero-fits : SFits w32 (pos 0)
zero-fits = omega arith

pub other_bits : {n : ℕ} → (n ≡ 0 → ⊥) → 0 < n
other_bits h = omega arith

pub other_zero : {z : ℤ} → SFits w32 z → (z ≡ pos 0 → ⊥) → 0 < of_z w32 z
other_zero f n = other_bits (λ e. n (bits_is f zero-fits e))

-- div is the machine's
pub div_quot : (left right : ℤ) → quot_z left right ≡ div_ℤ left right
div_quot (pos a) (pos b) = refl
div_quot (pos a) (negsuc b) = refl
div_quot (negsuc a) (pos b) = refl
div_quot (negsuc a) (negsuc b) = refl

-- ---- the size, by the test of the sign

pub below_size : (z : ℤ) → lt_z z (pos 0) ≡ true → neg_ℤ z ≡ pos (nat_abs z)
below_size (pos n) e = absurd (omega (arith, ltb-true n 0 e))
below_size (negsuc n) e = refl

pub above_size : (z : ℤ) → lt_z z (pos 0) ≡ false → z ≡ pos (nat_abs z)
above_size (pos n) e = refl
above_size (negsuc n) e = never (sym e)
