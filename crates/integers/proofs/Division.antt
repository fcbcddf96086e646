-- Laws of rem and mod: what they leave of a division, and of which sign.
use mathlib.Core.Path.{◌≡◌, refl, sym, ap, ◌∙◌, subst}
use Prim.Native.Nat.{ℕ, zero, suc, ◌+◌, ◌*◌, ◌-◌, ◌/◌, ◌%◌, ◌≤◌, ◌<◌}
use native.Mathlib.Omega.{arith}
use native.Mathlib.Nat.{div-add-mod, zero-mod, mul_comm, mul-suc, mul-zero, mod-lt, mod-le}
use lib.Arith.{digits_div}
use lib.IntN.{ℤ, pos, negsuc, neg_ℤ, nat_abs, ◌+ℤ◌, ◌-ℤ◌, ◌*ℤ◌, +ℤ_comm, -ℤ-+ℤ_cancel}
use lib.Dec.{ltb→lt, lt→ltb}
use lib.Signed.{rem_z, lt_z_yes}
use Rattle.integers.specs.Whole.{div_ℤ, floor_ℤ, rem_ℤ, mod_ℤ}
use Rattle.integers.specs.Division.{HasSign, Rest}
use Rattle.integers.proofs.Parts.{up, down, sub_ind, parts_neg, parts_minus, parts_add, eq_parts}

-- ---- signs

pub zero_sided : (s : ℤ) → HasSign s (pos 0)
zero_sided s = record { positive = λ h. absurd h.lt; negative = λ h. absurd h.lt }

pub pos_sided : (a m : ℕ) → m ≤ a → HasSign (pos a) (pos m)
pos_sided a m h = record {
  positive = λ p. lt_z_yes (lt→ltb 0 a (omega (arith, ltb→lt 0 m p.lt)));
  negative = λ n. absurd (omega (arith, ltb→lt m 0 n.lt));
}

pub neg_sided : (a m : ℕ) → HasSign (negsuc a) (neg_ℤ (pos m))
neg_sided a zero = zero_sided (negsuc a)
neg_sided a (suc m) = record { positive = λ p. absurd p.lt; negative = λ n. lt_z_yes tt }

-- what has the sign of a number that is not below 0 is not below it, and what has the sign of one below 0 is not above it
pub sided_up : (a : ℕ) (z : ℤ) → HasSign (pos a) z → down z ≡ 0
sided_up a (pos n) s = refl
sided_up a (negsuc n) s = absurd (omega (arith, ltb→lt a 0 (s.negative (lt_z_yes tt)).lt))

pub sided_down : (a : ℕ) (z : ℤ) → HasSign (negsuc a) z → up z ≡ 0
sided_down a (pos zero) s = refl
sided_down a (pos (suc n)) s = absurd (s.positive (lt_z_yes (lt→ltb 0 (suc n) (omega arith)))).lt
sided_down a (negsuc n) s = refl

-- ---- left is what was divided off and the rest

div_rem : (left right : ℤ) → left ≡ right *ℤ div_ℤ left right +ℤ rem_ℤ left right
div_rem left right = sym (+ℤ_comm (right *ℤ div_ℤ left right) (rem_ℤ left right) ∙ -ℤ-+ℤ_cancel left (right *ℤ div_ℤ left right))

floor_mod : (left right : ℤ) → left ≡ right *ℤ floor_ℤ left right +ℤ mod_ℤ left right
floor_mod left right = sym (+ℤ_comm (right *ℤ floor_ℤ left right) (mod_ℤ left right) ∙ -ℤ-+ℤ_cancel left (right *ℤ floor_ℤ left right))

-- ---- rem, sign by sign

minus_is : (a n m : ℕ) → n + m ≡ a → pos a -ℤ pos n ≡ pos m
minus_is a n m e = eq_parts (pos a -ℤ pos n) (pos m) (omega (arith, parts_minus (pos a) (pos n)))

plus_is : (a n m : ℕ) → n + m ≡ suc a → negsuc a -ℤ neg_ℤ (pos n) ≡ neg_ℤ (pos m)
plus_is a n m e = eq_parts (negsuc a -ℤ neg_ℤ (pos n)) (neg_ℤ (pos m)) (omega (arith, parts_minus (negsuc a) (neg_ℤ (pos n)), parts_neg (pos n), parts_neg (pos m)))

pub times_neg : (b q : ℕ) → pos b *ℤ neg_ℤ (pos q) ≡ neg_ℤ (pos (b * q))
times_neg b zero = rw (mul-zero b)
times_neg b (suc q) = refl

pub neg_times_neg : (k q : ℕ) → negsuc k *ℤ neg_ℤ (pos q) ≡ pos (suc k * q)
neg_times_neg k zero = rw (mul-zero (suc k))
neg_times_neg k (suc q) = refl

-- rem is the machine's: the rest of the sizes, with the dividend's sign
pub rem_sizes : (left right : ℤ) → rem_ℤ left right ≡ rem_z left right
rem_sizes (pos a) (pos b) = minus_is a (b * (a / b)) (a % b) (div-add-mod a b)
rem_sizes (pos a) (negsuc k) = ap (λ (z : ℤ). pos a -ℤ z) (neg_times_neg k (a / suc k)) ∙ minus_is a (suc k * (a / suc k)) (a % suc k) (div-add-mod a (suc k))
rem_sizes (negsuc a) (pos b) = ap (λ (z : ℤ). negsuc a -ℤ z) (times_neg b (suc a / b)) ∙ plus_is a (b * (suc a / b)) (suc a % b) (div-add-mod (suc a) b)
rem_sizes (negsuc a) (negsuc k) = plus_is a (suc k * (suc a / suc k)) (suc a % suc k) (div-add-mod (suc a) (suc k))

pub nat_abs_neg : (n : ℕ) → nat_abs (neg_ℤ (pos n)) ≡ n
nat_abs_neg zero = refl
nat_abs_neg (suc n) = refl

pub nonzero : (right : ℤ) → (right ≡ pos 0 → ⊥) → 0 < nat_abs right
nonzero (pos zero) n = absurd (n refl)
nonzero (pos (suc k)) n = omega arith
nonzero (negsuc k) n = omega arith

rest_sizes : (left right : ℤ) → 0 < nat_abs right → Rest left right (rem_z left right)
rest_sizes (pos a) right h = record { sided = pos_sided a (a % nat_abs right) (mod-le a (nat_abs right)); smaller = mod-lt a h }
rest_sizes (negsuc a) right h = record {
  sided = neg_sided a (suc a % nat_abs right);
  smaller = subst (λ (n : ℕ). n < nat_abs right) (sym (nat_abs_neg (suc a % nat_abs right))) (mod-lt (suc a) h);
}

-- rem is 0 or has the dividend's sign, and is smaller in size than the divisor
pub rem-rest : (left right : ℤ) → (right ≡ pos 0 → ⊥) → Rest left right (rem_ℤ left right)
rem-rest left right n = subst (Rest left right) (sym (rem_sizes left right)) (rest_sizes left right (nonzero right n))

-- ---- mod, from rem

-- a rest r with the dividend's sign takes the divisor once more where their signs differ
abbrev pub turned : ℤ → ℤ → ℤ
turned (pos zero) right = pos zero
turned (pos (suc n)) (pos m) = pos (suc n)
turned (pos (suc n)) (negsuc m) = pos (suc n) +ℤ negsuc m
turned (negsuc n) (pos m) = negsuc n +ℤ pos m
turned (negsuc n) (negsuc m) = negsuc n

turned_pos : (m b : ℕ) → turned (pos m) (pos b) ≡ pos m
turned_pos zero b = refl
turned_pos (suc m) b = refl

turned_neg : (m k : ℕ) → turned (neg_ℤ (pos m)) (negsuc k) ≡ neg_ℤ (pos m)
turned_neg zero k = refl
turned_neg (suc m) k = refl

-- one more than a, by b: the quotient goes up where nothing is left, and only there
step-some : (a b n : ℕ) → 0 < b → suc a % b ≡ suc n → b * suc (a / b) + suc n ≡ b + suc a
step-some a b n p e =
    let q = suc a / b in
    let f : a ≡ q * b + n = omega (arith, div-add-mod (suc a) b, mul_comm b q) in
    let g : a / b ≡ q = ap (λ (k : ℕ). k / b) f ∙ digits_div q (omega (arith, mod-lt (suc a) p)) in
    rw (g, mul-suc) (omega (arith, div-add-mod (suc a) b))

step-none : (a b : ℕ) → 0 < b → suc a % b ≡ 0 → b * suc (a / b) ≡ suc a
step-none a b p e = go (suc a / b) refl
  where
    go : (q : ℕ) → suc a / b ≡ q → b * suc (a / b) ≡ suc a
    go zero z = absurd (omega (arith, div-add-mod (suc a) b, ap (λ (k : ℕ). b * k) z, mul-zero b))
    go (suc r) z =
        let h : b * suc r ≡ suc a = omega (arith, div-add-mod (suc a) b, ap (λ (k : ℕ). b * k) z) in
        let f : a ≡ r * b + (b - 1) = omega (arith, mul-suc b r, mul_comm b r) in
        let g : a / b ≡ r = ap (λ (k : ℕ). k / b) f ∙ digits_div r (omega arith) in
        rw g h

-- signs that differ: the floor is one below the quotient of the sizes, unless nothing is left
turn_down : (a k m : ℕ) → suc a % suc k ≡ m → pos (suc a) -ℤ pos (suc k * suc (a / suc k)) ≡ turned (pos m) (negsuc k)
turn_down a k zero e = minus_is (suc a) (suc k * suc (a / suc k)) 0 (omega (arith, step-none a (suc k) (omega arith) e))
turn_down a k (suc m) e =
    eq_parts (pos (suc a) -ℤ pos (suc k * suc (a / suc k))) (pos (suc m) +ℤ negsuc k)
    (omega (arith, parts_minus (pos (suc a)) (pos (suc k * suc (a / suc k))), parts_add (pos (suc m)) (negsuc k), step-some a (suc k) m (omega arith) e))

turn_up : (a k m : ℕ) → suc a % suc k ≡ m → negsuc a -ℤ neg_ℤ (pos (suc k * suc (a / suc k))) ≡ turned (neg_ℤ (pos m)) (pos (suc k))
turn_up a k zero e = plus_is a (suc k * suc (a / suc k)) 0 (omega (arith, step-none a (suc k) (omega arith) e))
turn_up a k (suc m) e =
    let n = suc k * suc (a / suc k) in
    eq_parts (negsuc a -ℤ neg_ℤ (pos n)) (negsuc m +ℤ pos (suc k))
    (omega (arith, parts_minus (negsuc a) (neg_ℤ (pos n)), parts_neg (pos n), parts_add (negsuc m) (pos (suc k)), step-some a (suc k) m (omega arith) e))

pub mod_turned : (left right : ℤ) → (right ≡ pos 0 → ⊥) → mod_ℤ left right ≡ turned (rem_z left right) right
mod_turned (pos a) (pos b) n = minus_is a (b * (a / b)) (a % b) (div-add-mod a b) ∙ sym (turned_pos (a % b) b)
mod_turned (pos zero) (negsuc k) n = rw (mul-zero (suc k), zero-mod (suc k))
mod_turned (pos (suc a)) (negsuc k) n = turn_down a k (suc a % suc k) refl
mod_turned (negsuc a) (pos zero) n = absurd (n refl)
mod_turned (negsuc a) (pos (suc k)) n = turn_up a k (suc a % suc k) refl
mod_turned (negsuc a) (negsuc k) n = plus_is a (suc k * (suc a / suc k)) (suc a % suc k) (div-add-mod (suc a) (suc k)) ∙ sym (turned_neg (suc a % suc k) k)

-- a rest that is turned where the signs differ has the divisor's sign
turned_rest : (r right : ℤ) → nat_abs r < nat_abs right → Rest right right (turned r right)
turned_rest (pos zero) right h = record { sided = zero_sided right; smaller = h }
turned_rest (pos (suc m)) (pos k) h = record { sided = pos_sided k (suc m) (omega arith); smaller = h }
turned_rest (pos (suc m)) (negsuc k) h =
    sub_ind (Rest (negsuc k) (negsuc k)) (suc m) (suc k)
    (λ _. record { sided = neg_sided k (suc (suc k - suc (suc m))); smaller = omega arith })
    (λ g. absurd (omega arith))
turned_rest (negsuc m) (pos k) h =
    sub_ind (Rest (pos k) (pos k)) k (suc m) (λ g. absurd (omega arith)) (λ _. record { sided = pos_sided k (k - suc m) (omega arith); smaller = omega arith })
turned_rest (negsuc m) (negsuc k) h = record { sided = neg_sided k (suc m); smaller = h }

-- mod is 0 or has the divisor's sign, and is smaller in size than the divisor
pub mod_rest : (left right : ℤ) → (right ≡ pos 0 → ⊥) → Rest right right (mod_ℤ left right)
mod_rest left right n =
    subst (Rest right right) (sym (mod_turned left right n)) (turned_rest (rem_z left right) right (rest_sizes left right (nonzero right n)).smaller)
