-- The digits of a number: the last after those of its tenth, and how many there are.
use mathlib.Core.Path.{◌≡◌, refl, ap, ◌∙◌}
use mathlib.Core.Bool.{Bool, true, false, cond}
use mathlib.Core.List.{List, [], ◌∷◌, ◌++◌}
use Prim.Native.Nat.{ℕ, zero, suc, ◌+◌, ◌*◌, ◌/◌, ◌%◌, ◌≤◌, ◌<◌}
use native.Mathlib.Omega.{arith}
use borrow.Author.Tests.{lt-ltb, le-ltb, ltb-true, ltb-false}
use lib.Dec.{ltb}
use lib.ListN.{length, length-append}
use Rattle.print.specs.Ascii.{digit}
use Rattle.print.specs.Text.{digits_to, decimal}

-- enough is enough
digits_enough : (j k n : ℕ) → n < j → n < k → digits_to j n ≡ digits_to k n
unfolding digits_to
digits_enough zero k n h g = absurd (omega arith)
digits_enough (suc j) zero n h g = absurd (omega arith)
digits_enough (suc j) (suc k) n h g = go (λ low. digits_enough j k (n / 10) (omega arith) (omega arith)) (ltb n 10) refl
  where
    go : (10 ≤ n → digits_to j (n / 10) ≡ digits_to k (n / 10)) → (x : Bool) → ltb n 10 ≡ x
        → cond x (digit n ∷ []) (digits_to j (n / 10) ++ digit (n % 10) ∷ []) ≡ cond x (digit n ∷ []) (digits_to k (n / 10) ++ digit (n % 10) ∷ [])
    go same true e = refl
    go same false e = ap (λ (l : List ℕ). l ++ digit (n % 10) ∷ []) (same (ltb-false n 10 e))

module _ (n : ℕ) where
  pub decimal_small : n < 10 → decimal n ≡ digit n ∷ []
  unfolding decimal digits_to
  decimal_small h = rw (lt-ltb n 10 h)

  pub decimal_large : 10 ≤ n → decimal n ≡ decimal (n / 10) ++ digit (n % 10) ∷ []
  unfolding decimal digits_to
  decimal_large h =
      rw (le-ltb n 10 h) (ap (λ (l : List ℕ). l ++ digit (n % 10) ∷ []) (digits_enough n (suc (n / 10)) (n / 10) (omega arith) (omega arith)))

  pub length_small : n < 10 → length (decimal n) ≡ 1
  length_small h = ap length (decimal_small h)

  pub length_large : 10 ≤ n → length (decimal n) ≡ length (decimal (n / 10)) + 1
  length_large h = ap length (decimal_large h) ∙ length-append (decimal (n / 10)) (digit (n % 10) ∷ [])

-- ---- how many

-- 10 ^ (k + 1)
abbrev pub tens : ℕ → ℕ
tens zero = 10
tens (suc k) = 10 * tens k

-- as many digits as the number has are enough
digits_within : (k j n : ℕ) → n < tens k → n < j → digits_to j n ≡ digits_to (suc k) n
unfolding digits_to
digits_within k zero n h g = absurd (omega arith)
digits_within zero (suc j) n h g = rw (lt-ltb n 10 h)
digits_within (suc k) (suc j) n h g = go (λ low. digits_within k j (n / 10) (omega arith) (omega arith)) (ltb n 10) refl
  where
    go : (10 ≤ n → digits_to j (n / 10) ≡ digits_to (suc k) (n / 10)) → (x : Bool) → ltb n 10 ≡ x
        → cond x (digit n ∷ []) (digits_to j (n / 10) ++ digit (n % 10) ∷ []) ≡ cond x (digit n ∷ []) (digits_to (suc k) (n / 10) ++ digit (n % 10) ∷ [])
    go same true e = refl
    go same false e = ap (λ (l : List ℕ). l ++ digit (n % 10) ∷ []) (same (ltb-false n 10 e))

pub decimal_within : (k n : ℕ) → n < tens k → decimal n ≡ digits_to (suc k) n
unfolding decimal
decimal_within k n h = digits_within k (suc n) n h (omega arith)

pub decimal_short : (k n : ℕ) → n < tens k → length (decimal n) ≤ suc k
decimal_short zero n h = omega (arith, length_small n h)
decimal_short (suc k) n h = go (decimal_short k (n / 10) (omega arith)) (ltb n 10) refl
  where
    go : length (decimal (n / 10)) ≤ suc k → (x : Bool) → ltb n 10 ≡ x → length (decimal n) ≤ suc (suc k)
    go rest true e = omega (arith, length_small n (ltb-true n 10 e))
    go rest false e = omega (arith, length_large n (ltb-false n 10 e))

-- of a byte, of a quote, of an integer's size, and of any number of 64 bits
pub decimal_byte : (n : ℕ) → n < 256 → length (decimal n) ≤ 3
decimal_byte n h = decimal_short 2 n (omega arith)

pub decimal_quote : (n : ℕ) → n < 65536 → length (decimal n) ≤ 5
decimal_quote n h = decimal_short 4 n (omega arith)

pub decimal_integer : (n : ℕ) → n ≤ 2147483648 → length (decimal n) ≤ 10
decimal_integer n h = decimal_short 9 n (omega arith)

pub decimal_any : (n : ℕ) → n < 18446744073709551616 → length (decimal n) ≤ 20
decimal_any n h = decimal_short 19 n (omega arith)
