-- Going through the records: the lowest at fault.
use Rattle.std.specs.Prelude.{Option, Some, None, MatchOption, is_some, unwrap_or}
use Rattle.std.specs.Option.{option_or}
use Rattle.std.specs.Bool.{then_some}
use mathlib.Core.Path.{◌≡◌, sym, ◌∙◌}
use mathlib.Core.Bool.{Bool, true, false, ◌||◌}
use Prim.Native.Nat.{ℕ, ◌+◌, ◌≤◌, ◌<◌}
use native.Mathlib.Omega.{arith}
use borrow.Author.Tests.{lt-ltb, le-ltb}
use mathlib.Mathlib.Data.Bool.Basic.{or_inl, or_inr}
use Rattle.prelude.proofs.Absurd.{true_false, never}
use Rattle.prelude.proofs.Truth.{or_false_both, by_lower}
use Rattle.tables.specs.Sheet.{lowest}
use Rattle.tables.proofs.Laws.Tests.{low, lowest_is}
use Rattle.checking.specs.Answer.{found}

module _ (test : ℕ → Bool) where
  -- What is found below n: nothing passes, or r passes and no lower number does.
  abbrev pub Finds : ℕ → Option ℕ → Type 0
  Finds n r = MatchOption r ((k : ℕ) → k < n → test k ≡ false) (λ p. (p < n) × (test p ≡ true) × ((k : ℕ) → k < p → test k ≡ false))

  pub finds : (n : ℕ) → Finds n (found test n)
  finds n =
      by_lower {P = Finds n (found test n)} (lowest test n) n
      (λ h. rw (lt-ltb (lowest test n) n h) (h, (low test n).hit h, (low test n).miss))
      (λ h. rw (le-ltb (lowest test n) n h) (λ k l. (low test n).miss k (omega arith)))

  pub found_is : (n : ℕ) (r : Option ℕ) → Finds n r → r ≡ found test n
  found_is n None f =
      by_lower {P = None ≡ found test n} (lowest test n) n
      (λ h. never (sym (f (lowest test n) h) ∙ (low test n).hit h))
      (λ h. rw (le-ltb (lowest test n) n h))
  found_is n (Some p) f =
      let is : lowest test n ≡ p = lowest_is test n p f.0 f.1 f.2 in
      rw (is, lt-ltb p n f.0)

  -- One number more is tested, where nothing was found and where something was.
  pub found_next : (now : Option ℕ) (r : ℕ) (b : Bool) → now ≡ found test r → is_some now ≡ false → b ≡ test r → then_some b r ≡ found test (r + 1)
  found_next now r b e n f = go now b (rw e (finds r)) n f
    where
      go : (now : Option ℕ) (b : Bool) → Finds r now → is_some now ≡ false → b ≡ test r → then_some b r ≡ found test (r + 1)
      go None true m n f = found_is (r + 1) (Some r) (omega arith, sym f, m)
      go None false m n f = found_is (r + 1) None (λ k l. by_lower k r (λ h. m k h) (λ h. let same : k ≡ r = omega arith in rw same (sym f)))
      go (Some p) b m n f = true_false n

  pub found_stays : (now : Option ℕ) (r : ℕ) → now ≡ found test r → is_some now ≡ true → now ≡ found test (r + 1)
  found_stays now r e s = go now (rw e (finds r)) s
    where
      go : (now : Option ℕ) → Finds r now → is_some now ≡ true → now ≡ found test (r + 1)
      go None m s = never s
      go (Some p) m s = found_is (r + 1) (Some p) (omega (arith, m.0), m.1, m.2)

  -- It lies below n, and so does what stands for it.
  pub found_within : (n m : ℕ) (o : Option ℕ) → o ≡ found test n → n ≡ m → unwrap_or o m ≤ m
  found_within n m o e same = go o (rw e (finds n))
    where
      go : (o : Option ℕ) → Finds n o → unwrap_or o m ≤ m
      go None f = omega arith
      go (Some p) f = omega (arith, f.0)

-- The lowest of either sort: the lowest of the one, below the lowest of the other, or else that.
pub found_either : (s t : ℕ → Bool) (n : ℕ) (a b : Option ℕ) → a ≡ found s n → b ≡ found t (unwrap_or a n) → option_or b a ≡ found (λ r. s r || t r) n
found_either s t n a b e f = go a b (rw e (finds s n)) (rw f (finds t (unwrap_or a n)))
  where
    go : (a b : Option ℕ) → Finds s n a → Finds t (unwrap_or a n) b → option_or b a ≡ found (λ r. s r || t r) n
    go None None p q = found_is (λ r. s r || t r) n None (λ k h. or_false_both (s k) (t k) (p k h) (q k h))
    go None (Some y) p q = found_is (λ r. s r || t r) n (Some y) (q.0, or_inr (s y) (t y) q.1, λ k h. or_false_both (s k) (t k) (p k (omega (arith, q.0))) (q.2 k h))
    go (Some x) None p q = found_is (λ r. s r || t r) n (Some x) (p.0, or_inl (s x) (t x) p.1, λ k h. or_false_both (s k) (t k) (p.2 k h) (q k h))
    go (Some x) (Some y) p q =
        found_is (λ r. s r || t r) n (Some y) (omega (arith, p.0, q.0), or_inr (s y) (t y) q.1, λ k h. or_false_both (s k) (t k) (p.2 k (omega (arith, q.0))) (q.2 k h))

-- A lowest number found over a range, as `find` says it.
pub found_in : (test : ℕ → Bool) (n : ℕ) (r : Option ℕ) → MatchOption r ((k : ℕ) → 0 ≤ k → k < n → false ≡ test k) (λ i. (0 ≤ i) × (i < n) × (true ≡ test i) × ((k : ℕ) → 0 ≤ k → k < i → false ≡ test k)) → r ≡ found test n
found_in test n None m = found_is test n None (λ k h. sym (m k (omega arith) h))
found_in test n (Some p) m = found_is test n (Some p) (m.1, sym m.2, λ k h. sym (m.3 k (omega arith) h))
