-- Laws of the two orders: what each answer says, and what gives it.
use mathlib.Core.Path.{◌≡◌, refl, ap}
use mathlib.Core.Bool.{Bool, true, false, not, cond}
use Prim.Native.Nat.{ℕ, ◌≤◌, ◌<◌}
use native.Mathlib.Omega.{arith}
use borrow.Author.Tests.{eq-eqb, ltb-true, ltb-false, lt-ltb, le-ltb, lt-leb, le-leb}
use lib.Dec.{ltb, leb}
use lib.IntN.{ℤ, pos, negsuc}
use lib.Signed.{lt_z, le_z}
use Rattle.prelude.proofs.Absurd.{impossible}
use Rattle.prelude.proofs.Truth.{by_lower}
use Rattle.std.specs.declared.cmp.Ordering.{Ordering}
use Rattle.std.specs.declared.cmp.Ordering.TheVariants.{Less, Equal, Greater}
use Rattle.std.proofs.lemmas.Bool.{ne_eqb}
use Rattle.std.specs.Ordering.{nat_cmp, int_cmp}
use Rattle.integers.specs.Order.{order_by, order_ℕ, order_ℤ}

abbrev pub flip : Ordering → Ordering
flip Less = Greater
flip Equal = Equal
flip Greater = Less

-- ---- two tests

by_less : (s t : Bool) → order_by s t ≡ Less → s ≡ true
by_less true t e = refl
by_less false true e = cc
by_less false false e = cc

by_same : (s t : Bool) → order_by s t ≡ Equal → (s ≡ false) × (t ≡ false)
by_same true t e = (cc, cc)
by_same false true e = (cc, cc)
by_same false false e = (refl, refl)

by_flip : (s t : Bool) → (s ≡ true → t ≡ true → ⊥) → order_by t s ≡ flip (order_by s t)
by_flip true true f = absurd (f refl refl)
by_flip true false f = refl
by_flip false true f = refl
by_flip false false f = refl

-- ---- numbers

pub lower_lt : (a b : ℕ) → order_ℕ a b ≡ Less → a < b
unfolding order_ℕ
lower_lt a b e = ltb-true a b (by_less (ltb a b) (ltb b a) e)

pub lt_lower : (a b : ℕ) → a < b → order_ℕ a b ≡ Less
unfolding order_ℕ
lt_lower a b h = rw (lt-ltb a b h)

pub gt_higher : (a b : ℕ) → b < a → order_ℕ a b ≡ Greater
unfolding order_ℕ
gt_higher a b h =
    let g : b ≤ a = omega arith in
    rw (le-ltb a b g, lt-ltb b a h)

pub same_eq : (a b : ℕ) → order_ℕ a b ≡ Equal → a ≡ b
unfolding order_ℕ
same_eq a b e =
    let h = by_same (ltb a b) (ltb b a) e in
    omega (arith, ltb-false a b h.0, ltb-false b a h.1)

pub eq-same : (a b : ℕ) → a ≡ b → order_ℕ a b ≡ Equal
unfolding order_ℕ
eq-same a b e =
    let g : b ≤ a = omega arith in
    let h : a ≤ b = omega arith in
    rw (le-ltb a b g, le-ltb b a h)

leb_ltb : (a b : ℕ) → leb a b ≡ not (ltb b a)
leb_ltb a b = go (ltb b a) refl
  where
    go : (t : Bool) → ltb b a ≡ t → leb a b ≡ not t
    go true e = lt-leb a b (ltb-true b a e)
    go false e = le-leb a b (ltb-false b a e)

pub flip_order : (a b : ℕ) → order_ℕ b a ≡ flip (order_ℕ a b)
unfolding order_ℕ
flip_order a b = by_flip (ltb a b) (ltb b a) (λ p q. omega (arith, ltb-true a b p, ltb-true b a q))

-- ---- integers

lt_z_asym : (a b : ℤ) → lt_z a b ≡ true → lt_z b a ≡ true → ⊥
lt_z_asym (pos a) (pos b) p q = omega (arith, ltb-true a b p, ltb-true b a q)
lt_z_asym (pos a) (negsuc b) p q = impossible cc
lt_z_asym (negsuc a) (pos b) p q = impossible cc
lt_z_asym (negsuc a) (negsuc b) p q = omega (arith, ltb-true b a p, ltb-true a b q)

lt_z_trans : (a b c : ℤ) → lt_z a b ≡ true → lt_z b c ≡ true → lt_z a c ≡ true
lt_z_trans (pos a) (pos b) (pos c) p q = lt-ltb a c (omega (arith, ltb-true a b p, ltb-true b c q))
lt_z_trans (pos a) (pos b) (negsuc c) p q = q
lt_z_trans (pos a) (negsuc b) (pos c) p q = cc
lt_z_trans (pos a) (negsuc b) (negsuc c) p q = p
lt_z_trans (negsuc a) (pos b) (pos c) p q = refl
lt_z_trans (negsuc a) (pos b) (negsuc c) p q = cc
lt_z_trans (negsuc a) (negsuc b) (pos c) p q = refl
lt_z_trans (negsuc a) (negsuc b) (negsuc c) p q = lt-ltb c a (omega (arith, ltb-true b a p, ltb-true c b q))

-- neither is lower: they are equal
lt_z_eq : (a b : ℤ) → lt_z a b ≡ false → lt_z b a ≡ false → a ≡ b
lt_z_eq (pos a) (pos b) p q = ap pos (omega (arith, ltb-false a b p, ltb-false b a q))
lt_z_eq (pos a) (negsuc b) p q = cc
lt_z_eq (negsuc a) (pos b) p q = cc
lt_z_eq (negsuc a) (negsuc b) p q = ap negsuc (omega (arith, ltb-false b a p, ltb-false a b q))

-- what the tests give
pub lt_z_lower : (a b : ℤ) → lt_z a b ≡ true → order_ℤ a b ≡ Less
unfolding order_ℤ
lt_z_lower a b e = rw e

pub gt_z_higher : (a b : ℤ) → lt_z a b ≡ false → lt_z b a ≡ true → order_ℤ a b ≡ Greater
unfolding order_ℤ
gt_z_higher a b e f = rw (e, f)

pub eq_z_same : (a b : ℤ) → lt_z a b ≡ false → lt_z b a ≡ false → order_ℤ a b ≡ Equal
unfolding order_ℤ
eq_z_same a b e f = rw (e, f)

-- what the answers say
lower_lt_z : (a b : ℤ) → order_ℤ a b ≡ Less → lt_z a b ≡ true
unfolding order_ℤ
lower_lt_z a b e = by_less (lt_z a b) (lt_z b a) e

pub same_eq_z : (a b : ℤ) → order_ℤ a b ≡ Equal → a ≡ b
unfolding order_ℤ
same_eq_z a b e = let h = by_same (lt_z a b) (lt_z b a) e in lt_z_eq a b h.0 h.1

-- at most is not above
pub le_z_lt_z : (a b : ℤ) → le_z a b ≡ not (lt_z b a)
le_z_lt_z (pos a) (pos b) = leb_ltb a b
le_z_lt_z (pos a) (negsuc b) = refl
le_z_lt_z (negsuc a) (pos b) = refl
le_z_lt_z (negsuc a) (negsuc b) = leb_ltb b a

pub flip_order_z : (a b : ℤ) → order_ℤ b a ≡ flip (order_ℤ a b)
unfolding order_ℤ
flip_order_z a b = by_flip (lt_z a b) (lt_z b a) (lt_z_asym a b)

pub lower_trans : (a b c : ℤ) → order_ℤ a b ≡ Less → order_ℤ b c ≡ Less → order_ℤ a c ≡ Less
lower_trans a b c p q = lt_z_lower a c (lt_z_trans a b c (lower_lt_z a b p) (lower_lt_z b c q))

-- ---- the machine's orders

pub order_ℕ_is : (a b : ℕ) → nat_cmp a b ≡ order_ℕ a b
order_ℕ_is a b = by_lower a b (λ l. rw (lt-ltb a b l, lt_lower a b l)) (λ h. by_lower b a
    (λ l. rw (le-ltb a b h, ne_eqb a b (λ e. omega (arith, e, l)), gt_higher a b l))
    (λ k. let e : a ≡ b = omega arith in rw (le-ltb a b h, eq-eqb a b e, eq-same a b e)))

pub order_ℤ_is : (a b : ℤ) → int_cmp a b ≡ order_ℤ a b
unfolding order_ℤ
order_ℤ_is a b = go (lt_z a b) (lt_z b a)
  where
    go : (s t : Bool) → cond s Less (cond t Greater Equal) ≡ order_by s t
    go true t = refl
    go false true = refl
    go false false = refl
