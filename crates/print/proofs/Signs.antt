-- An integer below 0 as the code takes its size: one more than its distance to −1.
use mathlib.Core.Path.{◌≡◌, refl, sym, ap, ◌∙◌}
use mathlib.Core.Bool.{true, false}
use Prim.Native.Nat.{ℕ, suc, ◌-◌, ◌≤◌, ◌<◌}
use native.Mathlib.Omega.{arith}
use borrow.Author.Tests.{le-ltb, ltb-true}
use lib.IntN.{ℤ, pos, negsuc, ◌-ℤ◌}
use lib.Signed.{lt_z}
use mir.Syntax.{w32}
use mir.Val.{SFits, to_z, of_z}
use mir.Facts.{to_z-of_z, to_z_pos}
use Rattle.prelude.proofs.Absurd.{never}

pub record Below (z : ℤ) : Type 0 where
  pub k : ℕ
  pub is : z ≡ negsuc k
  pub low : k < 2147483648
  pub down : negsuc 0 -ℤ to_z w32 (of_z w32 z) ≡ pos k
  pub back : to_z w32 (of_z w32 (negsuc 0 -ℤ to_z w32 (of_z w32 z))) ≡ pos k

pub record NotBelow (z : ℤ) : Type 0 where
  pub n : ℕ
  pub is : z ≡ pos n
  pub low : n < 2147483648
  pub back : to_z w32 (of_z w32 z) ≡ pos n

pub below : (z : ℤ) → SFits w32 z → lt_z (to_z w32 (of_z w32 z)) (pos 0) ≡ true → Below z
below (pos n) f e = absurd (omega (arith, ltb-true n 0 (rw (to_z-of_z f) at e)))
below (negsuc k) f e =
    let h : 1 ≤ suc k = omega arith in
    let g : suc k - 1 ≡ k = omega arith in
    let m : negsuc 0 -ℤ negsuc k ≡ pos k = rw (le-ltb (suc k) 1 h) (ap pos g) in
    let d : negsuc 0 -ℤ to_z w32 (of_z w32 (negsuc k)) ≡ pos k = ap (λ (y : ℤ). negsuc 0 -ℤ y) (to_z-of_z f) ∙ m in
    record { k = k; is = refl; low = f.sfits; down = d; back = ap (λ (y : ℤ). to_z w32 (of_z w32 y)) d ∙ to_z_pos w32 f.sfits }

pub not-below : (z : ℤ) → SFits w32 z → lt_z (to_z w32 (of_z w32 z)) (pos 0) ≡ false → NotBelow z
not-below (pos n) f e = record { n = n; is = refl; low = f.sfits; back = to_z_pos w32 f.sfits }
not-below (negsuc k) f e = never (sym (rw (to_z-of_z f) at e))
