-- div cuts toward zero and the floor is the floor: each is the one integer that the inequalities of `Division` (specs) single out.
use mathlib.Core.Path.{◌≡◌, refl, sym, ap, subst}
use Prim.Native.Nat.{ℕ, zero, suc, ◌+◌, ◌*◌, ◌/◌, ◌≤◌, ◌<◌}
use native.Mathlib.Omega.{arith}
use native.Mathlib.Nat.{div-add-mod, mod-lt, mul-suc}
use lib.IntN.{ℤ, pos, negsuc, neg_ℤ, nat_abs, ◌+ℤ◌, ◌*ℤ◌}
use lib.Dec.{ltb→lt, lt→ltb}
use lib.Signed.{◌<ℤ◌, lt_z_yes}
use Rattle.integers.specs.Whole.{div_ℤ, floor_ℤ, mod_ℤ}
use Rattle.integers.specs.Division.{HasSign, CutTowardZero, Floor, TheOne}
use Rattle.integers.proofs.Parts.{up, down, parts_neg, parts_minus, parts_add, parts_size, le_parts, lt_parts, parts_le, parts_lt}
use Rattle.integers.proofs.Division.{nat_abs_neg, nonzero, times_neg, neg_times_neg, pos_sided, neg_sided, sided_up, sided_down, mod_rest}

-- ---- two multiples of a number that lie closer together than its size are one

close_factors : (b m n : ℕ) → b * m < b * n + b → b * n < b * m + b → m ≡ n
close_factors b zero zero h g = refl
close_factors b zero (suc n) h g = absurd (omega (arith, mul-suc b n))
close_factors b (suc m) zero h g = absurd (omega (arith, mul-suc b m))
close_factors b (suc m) (suc n) h g = ap suc (close_factors b m n (omega (arith, mul-suc b m, mul-suc b n)) (omega (arith, mul-suc b m, mul-suc b n)))

-- x is less than d above y
abbrev Near : ℕ → ℤ → ℤ → Type 0
Near d x y = up x + down y < up y + down x + d

pub near_one : (right p q : ℤ) → Near (nat_abs right) (right *ℤ p) (right *ℤ q) → Near (nat_abs right) (right *ℤ q) (right *ℤ p) → p ≡ q
near_one (pos b) (pos m) (pos n) h g = ap pos (close_factors b m n (omega arith) (omega arith))
near_one (pos b) (pos m) (negsuc n) h g = absurd (omega (arith, parts_neg (pos (b * suc n)), mul-suc b n))
near_one (pos b) (negsuc m) (pos n) h g = absurd (omega (arith, parts_neg (pos (b * suc m)), mul-suc b m))
near_one (pos b) (negsuc m) (negsuc n) h g =
    let x = parts_neg (pos (b * suc m)) in
    let y = parts_neg (pos (b * suc n)) in
    let e : suc m ≡ suc n = close_factors b (suc m) (suc n) (omega arith) (omega arith) in
    ap negsuc (omega arith)
near_one (negsuc k) (pos m) (pos n) h g =
    let x = parts_neg (pos (suc k * m)) in
    let y = parts_neg (pos (suc k * n)) in
    ap pos (close_factors (suc k) m n (omega arith) (omega arith))
near_one (negsuc k) (pos m) (negsuc n) h g = absurd (omega (arith, parts_neg (pos (suc k * m)), mul-suc (suc k) n))
near_one (negsuc k) (negsuc m) (pos n) h g = absurd (omega (arith, parts_neg (pos (suc k * n)), mul-suc (suc k) m))
near_one (negsuc k) (negsuc m) (negsuc n) h g =
    let e : suc m ≡ suc n = close_factors (suc k) (suc m) (suc n) (omega arith) (omega arith) in
    ap negsuc (omega arith)

-- ---- div

-- right × (left div right) has left's sign, and as size the largest multiple of right's size that left's size reaches
abbrev signed : ℤ → ℕ → ℤ
signed (pos a) n = pos n
signed (negsuc a) n = neg_ℤ (pos n)

abbrev multiple : ℤ → ℤ → ℕ
multiple left right = nat_abs right * (nat_abs left / nat_abs right)

multiple_is : (left right : ℤ) → right *ℤ div_ℤ left right ≡ signed left (multiple left right)
multiple_is (pos a) (pos b) = refl
multiple_is (pos a) (negsuc k) = neg_times_neg k (a / suc k)
multiple_is (negsuc a) (pos b) = times_neg b (suc a / b)
multiple_is (negsuc a) (negsuc k) = refl

abbrev Cut : ℤ → ℤ → ℤ → Type 0
Cut left right x = HasSign left x × (nat_abs x ≤ nat_abs left) × (nat_abs left < nat_abs x + nat_abs right)

signed_cut : (left right : ℤ) → 0 < nat_abs right → Cut left right (signed left (multiple left right))
signed_cut (pos a) right h =
    let d = div-add-mod a (nat_abs right) in
    let r = mod-lt a h in
    (pos_sided a (multiple (pos a) right) (omega arith), omega arith, omega arith)
signed_cut (negsuc a) right h =
    let d = div-add-mod (suc a) (nat_abs right) in
    let r = mod-lt (suc a) h in
    let e = nat_abs_neg (multiple (negsuc a) right) in
    (neg_sided a (multiple (negsuc a) right), omega arith, omega arith)

div_cut : (left right : ℤ) → (right ≡ pos 0 → ⊥) → CutTowardZero left right (div_ℤ left right)
div_cut left right other =
    let c = subst (Cut left right) (sym (multiple_is left right)) (signed_cut left right (nonzero right other)) in
    record { side = c.0; reached = c.1; passed = c.2 }

cut_near : (left right p q : ℤ) → CutTowardZero left right p → CutTowardZero left right q → Near (nat_abs right) (right *ℤ p) (right *ℤ q)
cut_near (pos a) right p q c d =
    let x = right *ℤ p in
    let y = right *ℤ q in
    omega (arith, sided_up a x c.side, sided_up a y d.side, c.reached, d.passed, parts_size x, parts_size y)
cut_near (negsuc a) right p q c d =
    let x = right *ℤ p in
    let y = right *ℤ q in
    omega (arith, sided_down a x c.side, sided_down a y d.side, d.reached, c.passed, parts_size x, parts_size y)

-- THEOREM: left div right is the one integer that is left/right cut toward zero
div_is : (left right : ℤ) → (right ≡ pos 0 → ⊥) → TheOne (CutTowardZero left right) (div_ℤ left right)
div_is left right other =
    let c = div_cut left right other in
    record { holds = c; only = λ p d. near_one right p (div_ℤ left right) (cut_near left right p _ d c) (cut_near left right _ p c d) }

-- ---- the floor

floor_holds : (left right : ℤ) → (right ≡ pos 0 → ⊥) → Floor left right (floor_ℤ left right)
floor_holds left (pos b) other =
    let right = pos b in
    let off = right *ℤ floor_ℤ left right in
    let r = mod_rest left right other in
    let z = mod_ℤ left right in
    let d = sided_up b z r.sided in
    let l = r.smaller in
    let n = parts_size z in
    let m = parts_minus left off in
    record {
      positive = λ h. (le_parts off left (omega arith), lt_parts left (off +ℤ right) (omega (arith, parts_add off right)));
      negative = λ h. absurd (omega (arith, ltb→lt b 0 h.lt));
    }
floor_holds left (negsuc k) other =
    let right = negsuc k in
    let off = right *ℤ floor_ℤ left right in
    let r = mod_rest left right other in
    let z = mod_ℤ left right in
    let d = sided_down k z r.sided in
    let l = r.smaller in
    let n = parts_size z in
    let m = parts_minus left off in
    record {
      positive = λ h. absurd h.lt;
      negative = λ h. (le_parts left off (omega arith), lt_parts (off +ℤ right) left (omega (arith, parts_add off right)));
    }

floor_near : (left right p q : ℤ) → (right ≡ pos 0 → ⊥) → Floor left right p → Floor left right q → Near (nat_abs right) (right *ℤ p) (right *ℤ q)
floor_near left (pos b) p q other f g =
    let above : pos 0 <ℤ pos b = lt_z_yes (lt→ltb 0 b (nonzero (pos b) other)) in
    let x = pos b *ℤ p in
    let y = pos b *ℤ q in
    omega (arith, parts_le x left (f.positive above).0, parts_lt left (y +ℤ pos b) (g.positive above).1, parts_add y (pos b))
floor_near left (negsuc k) p q other f g =
    let below : negsuc k <ℤ pos 0 = lt_z_yes tt in
    let x = negsuc k *ℤ p in
    let y = negsuc k *ℤ q in
    omega (arith, parts_le left y (g.negative below).0, parts_lt (x +ℤ negsuc k) left (f.negative below).1, parts_add x (negsuc k))

-- THEOREM: `floor_ℤ left right` is the one integer that is floor(left/right)
floor_is : (left right : ℤ) → (right ≡ pos 0 → ⊥) → TheOne (Floor left right) (floor_ℤ left right)
floor_is left right other =
    let f = floor_holds left right other in
    record { holds = f; only = λ p g. near_one right p (floor_ℤ left right) (floor_near left right p _ other g f) (floor_near left right _ p other f g) }
