-- The bytes of a run made from a list.
use mathlib.Core.Path.{◌≡◌, refl, sym, ap, subst, ◌∙◌}
use mathlib.Core.Bool.{Bool, true, false}
use mathlib.Core.List.{List, [], ◌∷◌, ◌++◌}
use Prim.Native.Nat.{ℕ, zero, suc, ◌+◌, ◌-◌, ◌≤◌}
use native.Mathlib.Omega.{arith}
use lib.Dec.{eqb}
use mir.Val.{bool_byte}
use lib.ListN.{length-append, length, take, drop, get_or, length-take, length-drop, replicate, length-replicate}
use lib.Seq.{get_or-append_right, take-append_seam, take-take, get_or-drop}
use Rattle.choices.specs.State.{Choices, view, fresh, Invariant, Made}
use Rattle.choices.specs.Tree.{most_choices}
use Rattle.lists.specs.Lent.{ways_from, run_bytes, lent}

zero_at : (n k : ℕ) → get_or {A = ℕ} (replicate n 0) k 0 ≡ 0
zero_at zero k = refl
zero_at (suc n) zero = refl
zero_at (suc n) (suc k) = zero_at n k

-- ---- a run's start

take_zero : (m : ℕ) (xs : List ℕ) (j : ℕ) → get_or xs j 0 ≡ 0 → get_or (take m xs) j 0 ≡ 0
take_zero zero xs j e = refl
take_zero (suc m) [] j e = refl
take_zero (suc m) (x ∷ xs) zero e = e
take_zero (suc m) (x ∷ xs) (suc j) e = take_zero m xs j e

fresh_as : (c : Choices) (l : List ℕ) (g : Bool) → c.used ≡ 0 → take c.len c.entries ≡ l → c.grow ≡ g → view c ≡ fresh l g
fresh_as c l g u e q =
    λ i. record { past = take (u i) c.entries; met = take (u i) c.counts; left = drop (u i) (e i); grow = q i }

byte_read : (g : Bool) (n : ℕ) → n ≡ bool_byte g → eqb n 1 ≡ g
byte_read true n e = ap (λ m. eqb m 1) e
byte_read false n e = ap (λ m. eqb m 1) e

module _ (l : List ℕ) (few : length l ≤ most_choices) where
  -- The entries, and zeros behind them.
  abbrev behind : List ℕ
  behind = l ++ drop (length l) (replicate (most_choices + most_choices) 0)

  long : length behind ≡ most_choices + most_choices
  long = omega (arith, length-append l (drop (length l) (replicate (most_choices + most_choices) 0)), length-drop (length l) (replicate {A = ℕ} (most_choices + most_choices) 0), length-replicate {A = ℕ} (most_choices + most_choices) 0)

  zero_beyond : (j : ℕ) → length l ≤ j → get_or behind j 0 ≡ 0
  zero_beyond j h =
      get_or-append_right l (drop (length l) (replicate (most_choices + most_choices) 0)) j 0 h
      ∙ get_or-drop (length l) (replicate (most_choices + most_choices) 0) (j - length l) 0
      ∙ zero_at (most_choices + most_choices) (length l + (j - length l))

  made : (g : Bool) (b : ℕ) → b ≡ bool_byte g → Made l g (lent (length l ∷ 0 ∷ b ∷ behind))
  made g b e =
      record {
        viewed = fresh_as (lent (length l ∷ 0 ∷ b ∷ behind)) l g refl (take-take (length l) most_choices behind few ∙ take-append_seam l _) (byte_read g b e);
        sound = record {
          used_within = omega arith;
          len_within = few;
          entries_sized = simp length-take (omega (arith, long));
          counts_sized = simp (length-take, length-drop) (omega (arith, long));
          zeroed = λ j h. take_zero most_choices behind j (zero_beyond j h);
        };
      }

  -- The list xs is copied between the numbers and what stands behind it.
  pub made_start : (g : Bool) (b : ℕ) (xs rest : List ℕ) → b ≡ bool_byte g → xs ≡ l → rest ≡ drop (3 + length l - 3) (replicate (most_choices + most_choices) 0) → Made l g (lent (length l ∷ 0 ∷ b ∷ (xs ++ rest)))
  made_start g b xs rest e f r =
      let n : 3 + length l - 3 ≡ length l = omega arith in
      let z : xs ++ rest ≡ behind = ap (λ (y : List ℕ). y ++ rest) f ∙ ap (λ (y : List ℕ). l ++ y) (r ∙ ap (λ (k : ℕ). drop k (replicate (most_choices + most_choices) 0)) n) in
      subst (λ (y : List ℕ). Made l g (lent (length l ∷ 0 ∷ b ∷ y))) (sym z) (made g b e)

-- A state in order has all its bytes.
pub sound_long : (run : List ℕ) → Invariant (lent run) → run_bytes ≤ length run
sound_long run s = omega (arith, s.counts_sized, length-take most_choices (drop ways_from run), length-drop ways_from run)
