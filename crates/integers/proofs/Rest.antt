-- The rest that `floor_rest` finds, by its tests of the machine's rest and of the divisor.
use mathlib.Core.Path.{◌≡◌, refl, sym, ap, ap₂, ◌∙◌}
use mathlib.Core.Bool.{true, false}
use Prim.Native.Nat.{ℕ, zero, suc}
use native.Mathlib.Omega.{arith}
use borrow.Author.Tests.{ltb-true, ltb-false}
use lib.Dec.{ltb}
use lib.IntN.{ℤ, pos, negsuc, ◌+ℤ◌}
use lib.Signed.{lt_z, rem_z}
use mir.Syntax.{w32}
use mir.Val.{SFits}
use mir.Facts.{to_z-of_z}
use Rattle.prelude.proofs.Absurd.{never}
use Rattle.integers.specs.Whole.{mod_ℤ}
use Rattle.integers.proofs.Division.{turned, mod_turned}
use Rattle.integers.proofs.Range.{fits_range}
use Rattle.integers.proofs.Machine.{read, is_fits, is_read, both_read}
use Rattle.integers.proofs.Ends.{remainder_range, modulus_range}

-- ---- `turned`, test by test

not_below_0 : {X : Type 0} (n : ℕ) → ltb n 0 ≡ true → X
not_below_0 n e = absurd (omega (arith, ltb-true n 0 e))

pub neg-neg : (r y : ℤ) → lt_z r (pos 0) ≡ true → lt_z y (pos 0) ≡ true → turned r y ≡ r
neg-neg (pos n) y e f = not_below_0 n e
neg-neg (negsuc n) (pos m) e f = not_below_0 m f
neg-neg (negsuc n) (negsuc m) e f = refl

pub neg_pos : (r y : ℤ) → lt_z r (pos 0) ≡ true → lt_z y (pos 0) ≡ false → turned r y ≡ r +ℤ y
neg_pos (pos n) y e f = not_below_0 n e
neg_pos (negsuc n) (pos m) e f = refl
neg_pos (negsuc n) (negsuc m) e f = never (sym f)

pub pos_pos : (r y : ℤ) → lt_z (pos 0) r ≡ true → lt_z (pos 0) y ≡ true → turned r y ≡ r
pos_pos (pos zero) y e f = not_below_0 0 e
pos_pos (pos (suc n)) (pos m) e f = refl
pos_pos (pos (suc n)) (negsuc m) e f = never f
pos_pos (negsuc n) y e f = never e

pub pos_neg : (r y : ℤ) → lt_z (pos 0) r ≡ true → lt_z (pos 0) y ≡ false → turned r y ≡ r +ℤ y
pos_neg (pos zero) y e f = not_below_0 0 e
pos_neg (pos (suc n)) (pos m) e f = ap pos (omega (arith, ltb-false 0 m f))
pos_neg (pos (suc n)) (negsuc m) e f = refl
pos_neg (negsuc n) y e f = never e

pub no_rest : (r y : ℤ) → lt_z r (pos 0) ≡ false → lt_z (pos 0) r ≡ false → turned r y ≡ r
no_rest (pos zero) y e f = refl
no_rest (pos (suc n)) y e f = absurd (omega (arith, ltb-false 0 (suc n) f))
no_rest (negsuc n) y e f = never (sym e)

-- ---- what is returned

-- r is the machine's rest
module _ {left right r : ℤ} (fl : SFits w32 left) (fr : SFits w32 right) (other : right ≡ pos 0 → ⊥) (is : r ≡ rem_z (read left) (read right)) where
  turned_is : turned (read r) (read right) ≡ mod_ℤ left right
  turned_is =
      ap₂ turned (is_read (is ∙ both_read rem_z fl fr) (remainder_range left right (fits_range left fl))) (to_z-of_z fr) ∙ sym (mod_turned left right other)

  pub as_it_is : turned (read r) (read right) ≡ read r → read r ≡ mod_ℤ left right
  as_it_is e = sym e ∙ turned_is

  module _ (e : turned (read r) (read right) ≡ read r +ℤ read right) where
    pub more_fits : SFits w32 (read r +ℤ read right)
    more_fits = is_fits (sym e ∙ turned_is) (modulus_range left right (fits_range right fr) other)

    pub with_right : read (read r +ℤ read right) ≡ mod_ℤ left right
    with_right = is_read (sym e ∙ turned_is) (modulus_range left right (fits_range right fr) other)
