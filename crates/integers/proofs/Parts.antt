-- Whole numbers by linear arithmetic: z is `up z` − `down z`, one of which is 0, so that each sum and each test of two whole numbers
-- is a fact that `omega` reads.
use mathlib.Core.Path.{◌≡◌, refl, ap}
use mathlib.Core.Bool.{Bool, true, false, cond}
use Prim.Native.Nat.{ℕ, zero, suc, ◌+◌, ◌-◌, ◌≤◌, ◌<◌}
use native.Mathlib.Omega.{arith}
use borrow.Author.Tests.{ltb-true, ltb-false}
use lib.Dec.{ltb, lt→ltb, le→leb, ltb→lt, leb→le}
use lib.IntN.{ℤ, pos, negsuc, neg_ℤ, nat_abs, sub_ℕ, ◌+ℤ◌, ◌-ℤ◌}
use lib.Signed.{◌≤ℤ◌, ◌<ℤ◌}

abbrev pub up : ℤ → ℕ
up (pos n) = n
up (negsuc n) = 0

abbrev pub down : ℤ → ℕ
down (pos n) = 0
down (negsuc n) = suc n

-- the difference of two naturals is one of two: what holds of both holds of it
pub sub_ind : (P : ℤ → Type 0) (a b : ℕ) → (a < b → P (negsuc (b - suc a))) → (b ≤ a → P (pos (a - b))) → P (sub_ℕ a b)
sub_ind P a b f g = go (ltb a b) refl
  where
    go : (t : Bool) → ltb a b ≡ t → P (cond t (negsuc (b - suc a)) (pos (a - b)))
    go true e = f (ltb-true a b e)
    go false e = g (ltb-false a b e)

-- ---- sums

parts_sub : (a b : ℕ) → up (sub_ℕ a b) + b ≡ a + down (sub_ℕ a b)
parts_sub a b = sub_ind (λ z. up z + b ≡ a + down z) a b (λ h. omega arith) (λ h. omega arith)

pub parts_add : (x y : ℤ) → up (x +ℤ y) + down x + down y ≡ up x + up y + down (x +ℤ y)
parts_add (pos a) (pos b) = omega arith
parts_add (pos a) (negsuc b) = omega (arith, parts_sub a (suc b))
parts_add (negsuc a) (pos b) = omega (arith, parts_sub b (suc a))
parts_add (negsuc a) (negsuc b) = omega arith

pub parts_neg : (x : ℤ) → (up (neg_ℤ x) ≡ down x) × (down (neg_ℤ x) ≡ up x)
parts_neg (pos zero) = (refl, refl)
parts_neg (pos (suc n)) = (refl, refl)
parts_neg (negsuc n) = (refl, refl)

pub parts_minus : (x y : ℤ) → up (x -ℤ y) + down x + up y ≡ up x + down y + down (x -ℤ y)
parts_minus x y = omega (arith, parts_add x (neg_ℤ y), parts_neg y)

-- ---- equal, at most, below

pub eq_parts : (x y : ℤ) → up x + down y ≡ up y + down x → x ≡ y
eq_parts (pos a) (pos b) h = ap pos (omega arith)
eq_parts (pos a) (negsuc b) h = absurd (omega arith)
eq_parts (negsuc a) (pos b) h = absurd (omega arith)
eq_parts (negsuc a) (negsuc b) h = ap negsuc (omega arith)

pub le_parts : (x y : ℤ) → up x + down y ≤ up y + down x → x ≤ℤ y
le_parts (pos a) (pos b) h = record { le = le→leb a b (omega arith) }
le_parts (pos a) (negsuc b) h = absurd (omega arith)
le_parts (negsuc a) (pos b) h = record { le = tt }
le_parts (negsuc a) (negsuc b) h = record { le = le→leb b a (omega arith) }

pub lt_parts : (x y : ℤ) → up x + down y < up y + down x → x <ℤ y
lt_parts (pos a) (pos b) h = record { lt = lt→ltb a b (omega arith) }
lt_parts (pos a) (negsuc b) h = absurd (omega arith)
lt_parts (negsuc a) (pos b) h = record { lt = tt }
lt_parts (negsuc a) (negsuc b) h = record { lt = lt→ltb b a (omega arith) }

pub parts_le : (x y : ℤ) → x ≤ℤ y → up x + down y ≤ up y + down x
parts_le (pos a) (pos b) h = omega (arith, leb→le a b h.le)
parts_le (pos a) (negsuc b) h = absurd h.le
parts_le (negsuc a) (pos b) h = omega arith
parts_le (negsuc a) (negsuc b) h = omega (arith, leb→le b a h.le)

pub parts_lt : (x y : ℤ) → x <ℤ y → up x + down y < up y + down x
parts_lt (pos a) (pos b) h = omega (arith, ltb→lt a b h.lt)
parts_lt (pos a) (negsuc b) h = absurd h.lt
parts_lt (negsuc a) (pos b) h = omega arith
parts_lt (negsuc a) (negsuc b) h = omega (arith, ltb→lt b a h.lt)

-- ---- sizes

pub parts_size : (x : ℤ) → nat_abs x ≡ up x + down x
parts_size (pos n) = omega arith
parts_size (negsuc n) = omega arith
