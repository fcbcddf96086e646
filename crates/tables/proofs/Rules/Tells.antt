-- What a test tells: a statement that holds exactly when the test is true.
use mathlib.Core.Path.{◌≡◌, sym, ◌∙◌}
use mathlib.Core.Bool.{Bool, true, false, not, ◌&&◌, ◌||◌}
use mathlib.Core.Logic.{◌⊎◌, inl, inr, ⊎_elim}
use mathlib.Core.List.{List, [], ◌∷◌, map}
use Prim.Native.Nat.{ℕ, zero, suc, ◌<◌, ◌≤◌}
use native.Mathlib.Omega.{arith}
use borrow.Author.Tests.{ltb-true, lt-ltb, leb-true, le-leb, eqb-true, eq-eqb, not-true}
use lib.Dec.{eqb, ltb, leb}
use lib.ListN.{length, get_or}
use mathlib.Mathlib.Data.Bool.Basic.{and_elim_left, and_elim_right, and_intro, or_inl, or_inr}
use Rattle.prelude.proofs.Absurd.{never}
use Rattle.prelude.proofs.Truth.{by_test, by_lower, or_cases}
use Rattle.tables.specs.Sheet.{any, some, is_in}
use Rattle.tables.proofs.Laws.Tests.{in_get_d, Place, in_place}

pub record Tells (b : Bool) (P : Type 0) : Type 0 where
  pub yes : b ≡ true → P
  pub back : P → b ≡ true

module _ {b : Bool} {P : Type 0} (t : Tells b P) where
  pub refuted : b ≡ false → ¬ P
  refuted e p = never (sym e ∙ t.back p)

  -- A test tells two statements that follow from each other.
  pub tells_as : {Q : Type 0} → (P → Q) → (Q → P) → Tells b Q
  tells_as f g = record { yes = λ e. f (t.yes e); back = λ q. t.back (g q) }

  pub tells_not : Tells (not b) (¬ P)
  tells_not =
      record {
        yes = λ e. refuted (not-true b e);
        back = λ f. by_test b (λ e. absurd (f (t.yes e))) (λ e. rw e);
      }

-- Two equal tests tell the same statement.
pub tells_by : {a b : Bool} {P : Type 0} → a ≡ b → Tells b P → Tells a P
tells_by e t = record { yes = λ f. t.yes (sym e ∙ f); back = λ p. e ∙ t.back p }

module _ {a b : Bool} {P Q : Type 0} (s : Tells a P) (t : Tells b Q) where
  pub tells_or : Tells (a || b) (P ⊎ Q)
  tells_or =
      record {
        yes = λ e. ⊎_elim (λ f. inl (s.yes f)) (λ f. inr (t.yes f)) (or_cases a b e);
        back = λ e. ⊎_elim (λ p. or_inl a b (s.back p)) (λ q. or_inr a b (t.back q)) e;
      }

  pub tells_and : Tells (a && b) (P × Q)
  tells_and =
      record {
        yes = λ e. (s.yes (and_elim_left a b e), t.yes (and_elim_right a b e));
        back = λ e. and_intro (s.back e.0) (t.back e.1);
      }

pub tells_lower : (a b : ℕ) → Tells (ltb a b) (a < b)
tells_lower a b = record { yes = ltb-true a b; back = lt-ltb a b }

pub tells_most : (a b : ℕ) → Tells (leb a b) (a ≤ b)
tells_most a b = record { yes = leb-true a b; back = le-leb a b }

pub tells_same : (a b : ℕ) → Tells (eqb a b) (a ≡ b)
tells_same a b = record { yes = eqb-true a b; back = eq-eqb a b }

pub tells_true : (b : Bool) → Tells b (b ≡ true)
tells_true b = record { yes = λ e. e; back = λ e. e }

-- The test over all numbers below n tells that one of them passes.
pub tells_any : (test : ℕ → Bool) (P : ℕ → Type 0) (n : ℕ) → ((i : ℕ) → i < n → Tells (test i) (P i)) → Tells (any test n) ((i : ℕ) × (i < n) × P i)
tells_any test P zero t = record { yes = λ e. never e; back = λ e. let (i, h, p) = e in absurd (omega arith) }
tells_any test P (suc n) t = go (tells_any test P n (λ i h. t i (omega arith)))
  where
    go : Tells (any test n) ((i : ℕ) × (i < n) × P i) → Tells (any test n || test n) ((i : ℕ) × (i < suc n) × P i)
    go s =
        record {
          yes =
              λ e.
              ⊎_elim (λ f. let (i, h, p) = s.yes f in (i, omega arith, p)) (λ f. (n, omega arith, (t n (omega arith)).yes f))
              (or_cases (any test n) (test n) e);
          back =
              λ e.
              let (i, h, p) = e in
              by_lower i n (λ l. or_inl (any test n) (test n) (s.back (i, l, p)))
              (λ l.
              let same : i ≡ n = omega arith in
              or_inr (any test n) (test n) (rw same at ((t i h).back p)));
        }

-- The test over all numbers of a list tells that one of them passes.
pub tells_some : (f : ℕ → Bool) (P : ℕ → Type 0) (ms : List ℕ) → ((i : ℕ) → i < length ms → Tells (f (get_or ms i 0)) (P (get_or ms i 0))) → Tells (some (map f ms)) ((i : ℕ) × (i < length ms) × P (get_or ms i 0))
tells_some f P [] t = record { yes = λ e. never e; back = λ e. let (i, h, p) = e in absurd (omega arith) }
tells_some f P (m ∷ ms) t = go (tells_some f P ms (λ i h. t (suc i) (omega arith)))
  where
    back : Tells (some (map f ms)) ((i : ℕ) × (i < length ms) × P (get_or ms i 0)) → (i : ℕ) → i < suc (length ms) → P (get_or (m ∷ ms) i 0) → f m || some (map f ms) ≡ true
    back s zero h p = or_inl (f m) (some (map f ms)) ((t 0 (omega arith)).back p)
    back s (suc i) h p = or_inr (f m) (some (map f ms)) (s.back (i, omega arith, p))

    go : Tells (some (map f ms)) ((i : ℕ) × (i < length ms) × P (get_or ms i 0)) → Tells (f m || some (map f ms)) ((i : ℕ) × (i < suc (length ms)) × P (get_or (m ∷ ms) i 0))
    go s =
        record {
          yes =
              λ e.
              ⊎_elim (λ g. (0, omega arith, (t 0 (omega arith)).yes g)) (λ g. let (i, h, p) = s.yes g in (suc i, omega arith, p))
              (or_cases (f m) (some (map f ms)) e);
          back = λ e. let (i, h, p) = e in back s i h p;
        }

pub tells_in : (n : ℕ) (ms : List ℕ) → Tells (is_in n ms) (Place ms n)
tells_in n ms = record { yes = in_place n ms; back = λ p. rw p.is at (in_get_d ms p.index p.within) }
