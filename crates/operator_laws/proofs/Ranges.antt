-- Laws of integers one after another: which they are, and that they stay in order, in range and of known size.
use mathlib.Core.Path.{◌≡◌, refl, sym, ap, subst, ◌∙◌}
use mathlib.Core.Bool.{Bool, true, false, ◌&&◌, and-eq-true_iff, cond}
use Prim.Native.Nat.{ℕ, zero, suc, ◌+◌, ◌*◌, ◌≤◌, ◌<◌}
use native.Mathlib.Omega.{arith}
use borrow.Author.Tests.{leb-true, le-leb, lt-ltb, eqb-true, eqb-false}
use lib.Dec.{eqb, leb}
use lib.IntN.{ℤ, pos, negsuc, ◌+ℤ◌, ◌-ℤ◌}
use lib.Signed.{lt_z, le_z}
use mathlib.Mathlib.Data.Bool.Basic.{and_intro}
use Rattle.prelude.proofs.Absurd.{never}
use Rattle.prelude.proofs.Truth.{both_ways, by_test}
use Rattle.integers.specs.Whole.{least_integer, greatest_integer, InRange}
use Rattle.integers.proofs.Parts.{up, down, parts_add, parts_minus, eq_parts}
use Rattle.std.specs.declared.cmp.Ordering.TheVariants.{Less}
use Rattle.values.specs.Value.{set, integer, collection, size, sizes, value_limit, within, order, Before, Ascending, Sound, SoundItems}
use Rattle.integers.specs.Order.{order_ℕ, order_ℤ}
use Rattle.values.specs.Items.{is_member}
use Rattle.values.proofs.Members.{member_here}
use Rattle.operators.specs.Answer.{is, refused, too_large, built, stopped, closed}
use Rattle.operators.specs.Gather.{up_from}
use Rattle.operators.specs.Sets.{as_count, how_many, consecutive, range_of}
use Rattle.operator_laws.proofs.Gather.{member_none, member_case, member_there}

-- ---- at most and below, as facts that `omega` reads

pub le_up : (a b : ℤ) → le_z a b ≡ true → up a + down b ≤ up b + down a
le_up (pos a) (pos b) e = omega (arith, leb-true a b e)
le_up (pos a) (negsuc b) e = never e
le_up (negsuc a) (pos b) e = omega arith
le_up (negsuc a) (negsuc b) e = omega (arith, leb-true b a e)

pub up_le : (a b : ℤ) → up a + down b ≤ up b + down a → le_z a b ≡ true
up_le (pos a) (pos b) h = le-leb a b (omega arith)
up_le (pos a) (negsuc b) h = absurd (omega arith)
up_le (negsuc a) (pos b) h = refl
up_le (negsuc a) (negsuc b) h = le-leb b a (omega arith)

up_lt : (a b : ℤ) → up a + down b < up b + down a → lt_z a b ≡ true
up_lt (pos a) (pos b) h = lt-ltb a b (omega arith)
up_lt (pos a) (negsuc b) h = absurd (omega arith)
up_lt (negsuc a) (pos b) h = refl
up_lt (negsuc a) (negsuc b) h = lt-ltb b a (omega arith)

le_trans : (a b c : ℤ) → le_z a b ≡ true → le_z b c ≡ true → le_z a c ≡ true
le_trans a b c p q = up_le a c (omega (arith, le_up a b p, le_up b c q))

-- What lies between two integers in range is in range.
pub between : (lo z hi : ℤ) → InRange lo → InRange hi → le_z lo z ≡ true → le_z z hi ≡ true → InRange z
between lo z hi p q l h =
    and_intro (le_trans least_integer lo z ((and-eq-true_iff (le_z least_integer lo) (le_z lo greatest_integer)).0 p).0 l) (le_trans z hi greatest_integer h ((and-eq-true_iff (le_z least_integer hi) (le_z hi greatest_integer)).0 q).1)

-- One of the two parts is 0.
sides : {P : Type 0} (z : ℤ) → (down z ≡ 0 → as_count z ≡ up z → P) → (up z ≡ 0 → as_count z ≡ 0 → P) → P
sides (pos n) f g = f refl refl
sides (negsuc n) f g = g refl refl

-- ---- which they are

-- i is one of the n integers from z up.
pub record Within (z i : ℤ) (n : ℕ) : Type 0 where
  pub low : up z + down i ≤ up i + down z
  pub high : up i + down z < up z + down i + n

pub member_up : (z i : ℤ) (n : ℕ) → is_member (integer i) (up_from z n) ≡ true → Within z i n
unfolding up_from
member_up z i zero e = never (sym (member_none (integer i)) ∙ e)
member_up z i (suc n) e =
    member_case (integer i) (integer z) (up_from (z +ℤ pos 1) n) e
    (λ q. let r : i ≡ z = cc in let u = ap up r in let d = ap down r in record { low = omega arith; high = omega arith })
    (λ m. let w = member_up (z +ℤ pos 1) i n m in let l = w.low in let h = w.high in let s = parts_add z (pos 1) in record { low = omega arith; high = omega arith })

pub up_member : (z i : ℤ) (n : ℕ) → Within z i n → is_member (integer i) (up_from z n) ≡ true
unfolding up_from
up_member z i zero w = let l = w.low in let h = w.high in absurd (omega arith)
up_member z i (suc n) w =
    let l = w.low in
    let h = w.high in
    let s = parts_add z (pos 1) in
    by_test (eqb (up i + down z) (up z + down i))
    (λ e. let r : i ≡ z = eq_parts i z (omega (arith, eqb-true (up i + down z) (up z + down i) e)) in rw r (member_here (integer z) (up_from (z +ℤ pos 1) n)))
    (λ e.
    let ne : (up i + down z ≡ up z + down i → ⊥) = eqb-false (up i + down z) (up z + down i) e in
    member_there (integer i) (integer z) (up_from (z +ℤ pos 1) n) (up_member (z +ℤ pos 1) i n (record { low = omega arith; high = omega arith })))

-- THEOREM: the members of {from, ..., to} are the integers from one to the other, both included
member_range : (from to i : ℤ) → is_member (integer i) (up_from from (how_many from to)) ≡ le_z from i && le_z i to
member_range from to i =
    let e : ℤ = to -ℤ from +ℤ pos 1 in
    let s = parts_add (to -ℤ from) (pos 1) in
    let t = parts_minus to from in
    both_ways (is_member (integer i) (up_from from (how_many from to))) (le_z from i && le_z i to)
    (λ m.
    let w = member_up from i (how_many from to) m in
    let l = w.low in
    let h = w.high in
    and_intro (up_le from i l) (up_le i to (sides e (λ d c. omega arith) (λ u c. omega arith))))
    (λ b.
    let p = (and-eq-true_iff (le_z from i) (le_z i to)).0 b in
    let l = le_up from i p.0 in
    let h = le_up i to p.1 in
    up_member from i (how_many from to) (record { low = l; high = sides e (λ d c. omega arith) (λ u c. omega arith) }))

-- ---- order, range and size

lower_integer : (a b : ℤ) → up a + down b < up b + down a → order (integer a) (integer b) ≡ Less
unfolding within order_ℕ order_ℤ
lower_integer a b h = rw (up_lt a b h)

before_up : (a z : ℤ) (n : ℕ) → up a + down z < up z + down a → Before (integer a) (up_from z n)
unfolding up_from Before
before_up a z zero h = tt
before_up a z (suc n) h = let s = parts_add z (pos 1) in (lower_integer a z h, before_up a (z +ℤ pos 1) n (omega arith))

pub ascending_up : (z : ℤ) (n : ℕ) → Ascending (up_from z n)
unfolding up_from Ascending
ascending_up z zero = tt
ascending_up z (suc n) = let s = parts_add z (pos 1) in (before_up z (z +ℤ pos 1) n (omega arith), ascending_up (z +ℤ pos 1) n)

-- From lo or above, and up to hi or below.
pub sound_up : (lo hi : ℤ) → InRange lo → InRange hi → (z : ℤ) (n : ℕ) → up lo + down z ≤ up z + down lo → up z + down hi + n ≤ up hi + down z + 1 → SoundItems (up_from z n)
unfolding up_from Sound
sound_up lo hi p q z zero l h = tt
sound_up lo hi p q z (suc n) l h =
    let s = parts_add z (pos 1) in
    (between lo z hi p q (up_le lo z l) (up_le z hi (omega arith)), sound_up lo hi p q (z +ℤ pos 1) n (omega arith) (omega arith))

pub sound_range : (from to : ℤ) → InRange from → InRange to → SoundItems (up_from from (how_many from to))
unfolding up_from Sound
sound_range from to p q =
    let e : ℤ = to -ℤ from +ℤ pos 1 in
    let s = parts_add (to -ℤ from) (pos 1) in
    let t = parts_minus to from in
    sides e (λ d c. sound_up from to p q from (how_many from to) (omega arith) (omega arith))
    (λ u c. subst (λ (k : ℕ). SoundItems (up_from from k)) (sym c) tt)

pub sizes_up : (z : ℤ) (n : ℕ) → sizes (up_from z n) ≡ 8 * n
unfolding up_from size
sizes_up z zero = refl
sizes_up z (suc n) = let e = sizes_up (z +ℤ pos 1) n in omega arith

-- ---- judged by their number

-- THEOREM: each takes 8 bytes, so how many there are tells whether they pass 512, before any is formed
pub counting_is : (z : ℤ) (n : ℕ) → consecutive z n ≡ cond (leb (4 + 8 * n) value_limit) (is (collection set (up_from z n))) (refused too_large)
counting_is z n =
    ap (λ (k : ℕ). closed set (cond (leb (4 + k) value_limit) (built (up_from z n)) (stopped too_large))) (sizes_up z n) ∙ go (leb (4 + 8 * n) value_limit)
  where
    go : (b : Bool) → closed set (cond b (built (up_from z n)) (stopped too_large)) ≡ cond b (is (collection set (up_from z n))) (refused too_large)
    go true = refl
    go false = refl

-- The set of all integers is refused.
range_widest : range_of (integer least_integer) (integer greatest_integer) ≡ refused 28
range_widest = counting_is least_integer (how_many least_integer greatest_integer)
