-- Laws of the tests over numbers and over lists of numbers.
use Rattle.std.specs.Prelude.{◌≡◌, refl, Bool, true, false, not, ◌||◌, cond, List, [], ◌∷◌, ◌++◌, ℕ, zero, suc, ◌<◌, ◌≤◌, eqb, ltb, length, get_or}
use Rattle.std.proofs.Common.{sym, ◌∙◌, arith, ltb-true, ltb-false, eq-eqb, eqb-true}
use Rattle.std.proofs.lemmas.Bool.{not-false}
use mathlib.Mathlib.Data.Bool.Basic.{or_inr}
use Rattle.prelude.proofs.Truth.{by_lower, or_false_left, or_false_right, or_false_both}
use Rattle.prelude.proofs.Absurd.{never}
use Rattle.tables.specs.Sheet.{any, lowest, is_in}

-- ---- any

module _ (test : ℕ → Bool) where
  pub any_none : (n : ℕ) → any test n ≡ false → (i : ℕ) → i < n → test i ≡ false
  any_none zero e i h = absurd (omega arith)
  any_none (suc n) e i h =
      by_lower i n (λ l. any_none n (or_false_left (any test n) (test n) e) i l)
      (λ l. let same : i ≡ n = omega arith in rw same (or_false_right (any test n) (test n) e))

  pub any_false : (n : ℕ) → ((i : ℕ) → i < n → test i ≡ false) → any test n ≡ false
  any_false zero f = refl
  any_false (suc n) f = or_false_both (any test n) (test n) (any_false n (λ i h. f i (omega arith))) (f n (omega arith))

  -- ---- lowest

  -- r is the lowest number below n that passes the test, or n.
  pub record Low (n r : ℕ) : Type 0 where
    pub within : r ≤ n
    pub hit : r < n → test r ≡ true
    pub miss : (q : ℕ) → q < r → test q ≡ false

  low_more : (n r : ℕ) (b t : Bool) → ltb r n ≡ b → test n ≡ t → Low n r → Low (suc n) (cond b r (cond t n (suc n)))
  low_more n r true t e f l = record { within = omega (arith, ltb-true r n e); hit = λ h. l.hit (ltb-true r n e); miss = l.miss }
  low_more n r false true e f l = record { within = omega arith; hit = λ h. f; miss = λ q h. l.miss q (omega (arith, ltb-false r n e, l.within)) }
  low_more n r false false e f l =
      record {
        within = omega arith;
        hit = λ h. absurd (omega arith);
        miss =
            λ q h.
            by_lower q n (λ k. l.miss q (omega (arith, ltb-false r n e)))
            (λ k. let same : q ≡ n = omega arith in rw same f);
      }

  pub low : (n : ℕ) → Low n (lowest test n)
  low zero = record { within = omega arith; hit = λ h. absurd (omega arith); miss = λ q h. absurd (omega arith) }
  low (suc n) = low_more n (lowest test n) (ltb (lowest test n) n) (test n) refl refl (low n)

  pub low_same : {n r s : ℕ} → Low n r → Low n s → r ≡ s
  low_same {n} {r} {s} l m =
      by_lower r s (λ h. never (sym (m.miss r h) ∙ l.hit (omega (arith, m.within))))
      (λ h. by_lower s r (λ k. never (sym (l.miss s k) ∙ m.hit (omega (arith, l.within)))) (λ k. omega arith))

  pub lowest_is : (n r : ℕ) → r < n → test r ≡ true → ((q : ℕ) → q < r → test q ≡ false) → lowest test n ≡ r
  lowest_is n r h e f = low_same (low n) (record { within = omega arith; hit = λ k. e; miss = f })

-- A test that is computed over all numbers below n holds of each.
pub each : (test : ℕ → Bool) (n : ℕ) → any (λ k. not (test k)) n ≡ false → (k : ℕ) → k < n → test k ≡ true
each test n e k h = not-false (test k) (any_none (λ k. not (test k)) n e k h)

-- ---- being in a list

pub in_append : (n : ℕ) (ms ns : List ℕ) → is_in n (ms ++ ns) ≡ is_in n ms || is_in n ns
in_append n [] ns = refl
in_append n (m ∷ ms) ns = go (eqb n m) (in_append n ms ns)
  where
    go : (b : Bool) → is_in n (ms ++ ns) ≡ is_in n ms || is_in n ns → b || is_in n (ms ++ ns) ≡ b || is_in n ms || is_in n ns
    go true e = refl
    go false e = e

pub in_get_d : (ms : List ℕ) (i : ℕ) → i < length ms → is_in (get_or ms i 0) ms ≡ true
in_get_d [] i h = absurd (omega arith)
in_get_d (m ∷ ms) zero h = rw (eq-eqb m m refl)
in_get_d (m ∷ ms) (suc i) h = or_inr (eqb (get_or ms i 0) m) (is_in (get_or ms i 0) ms) (in_get_d ms i (omega arith))

-- Where a number stands that is in a list.
pub record Place (ms : List ℕ) (n : ℕ) : Type 0 where
  pub index : ℕ
  pub within : index < length ms
  pub is : get_or ms index 0 ≡ n

pub in_place : (n : ℕ) (ms : List ℕ) → is_in n ms ≡ true → Place ms n
in_place n [] e = never e
in_place n (m ∷ ms) e = go (eqb n m) refl e (in_place n ms)
  where
    go : (b : Bool) → eqb n m ≡ b → b || is_in n ms ≡ true → (is_in n ms ≡ true → Place ms n) → Place (m ∷ ms) n
    go true f g k = record { index = zero; within = omega arith; is = sym (eqb-true n m f) }
    go false f g k =
        let p : Place ms n = k g in
        record { index = suc p.index; within = omega (arith, p.within); is = p.is }
