-- Laws of tests that the library does not have. It has `cond`, `and-eq-true_iff`, `or-false`, .. (mathlib.Core.Bool), `or_inl`, `or_inr`,
-- `and_intro`, `and_elim_left`, .. (mathlib.Mathlib.Data.Bool.Basic) and `not-true`, `not-false` (borrow.Author.Tests).
use mathlib.Core.Path.{◌≡◌, refl}
use mathlib.Core.Bool.{Bool, true, false, not, cond, ◌||◌}
use mathlib.Core.Logic.{◌⊎◌, inl, inr}
use Prim.Native.Nat.{ℕ, ◌<◌, ◌≤◌}
use native.Mathlib.Omega.{arith}
use borrow.Author.Tests.{ltb-true, ltb-false}
use lib.Dec.{ltb}
use Rattle.prelude.proofs.Absurd.{never}

-- ---- by cases

pub by_test {ℓ} : {P : Type ℓ} (b : Bool) → (b ≡ true → P) → (b ≡ false → P) → P
by_test true f g = f refl
by_test false f g = g refl

-- Either a is lower than b, or not.
pub by_lower {ℓ} : {P : Type ℓ} (a b : ℕ) → (a < b → P) → (b ≤ a → P) → P
by_lower a b f g = by_test (ltb a b) (λ e. f (ltb-true a b e)) (λ e. g (ltb-false a b e))

-- What is not 0 is more.
pub positive : (n : ℕ) → (n ≡ 0 → ⊥) → 0 < n
positive n f = by_lower 0 n (λ l. l) (λ l. absurd (f (omega arith)))

pub both_ways : (b c : Bool) → (b ≡ true → c ≡ true) → (c ≡ true → b ≡ true) → b ≡ c
both_ways true c f g = cc (f refl)
both_ways false true f g = cc (g refl)
both_ways false false f g = refl

module _ {ℓ} {A : Type ℓ} where
  pub cond-true : (b : Bool) (x y : A) → b ≡ true → cond b x y ≡ x
  cond-true b x y e = rw e

  pub cond-false : (b : Bool) (x y : A) → b ≡ false → cond b x y ≡ y
  cond-false b x y e = rw e

pub cond-or : (b c : Bool) → cond b true c ≡ b || c
cond-or true c = refl
cond-or false c = refl

-- ---- one of two is true, or neither

pub or_cases : (a b : Bool) → a || b ≡ true → (a ≡ true) ⊎ (b ≡ true)
or_cases true b e = inl refl
or_cases false b e = inr e

pub or_false_left : (a b : Bool) → a || b ≡ false → a ≡ false
or_false_left true b e = cc
or_false_left false b e = refl

pub or_false_right : (a b : Bool) → a || b ≡ false → b ≡ false
or_false_right true b e = cc
or_false_right false b e = e

pub or_false_both : (a b : Bool) → a ≡ false → b ≡ false → a || b ≡ false
or_false_both a b e f = rw (e, f)

-- ---- an implication

pub implied : (a b : Bool) → not a || b ≡ true → a ≡ true → b ≡ true
implied true b e f = e
implied false b e f = never f
