-- What holds while `advance` looks for the last entry that can go up.
use mathlib.Core.Path.{◌≡◌, refl, sym, ap, ap₂, ◌∙◌}
use mathlib.Core.Bool.{true, false}
use mathlib.Core.Option.{none, some}
use mathlib.Core.List.{List, [], ◌∷◌, ◌++◌}
use Prim.Native.Nat.{ℕ, suc, ◌+◌, ◌≤◌, ◌<◌}
use native.Mathlib.Omega.{arith}
use native.Mathlib.Decide.{ℕ_discrete}
use lib.ListN.{length, take, drop, get_or, set, length-take, length-set, take-append-drop}
use lib.Seq.{take-suc-set, get_or-take, take-set-le, take-take, get_or-set_same, get_or-set_other}
use borrow.Author.Tests.{lt-ltb, le-ltb}
use Rattle.choices.specs.State.{Choices, View, Invariant, fresh, Made, Moved}
use Rattle.choices.specs.Paths.{raise}
use Rattle.choices.proofs.States.{left_cons, left_nil}

-- a list of two parts, of which the second can be raised
raise_append : (xs ns ys ms z : List ℕ) → length xs ≡ length ns → raise ys ms ≡ some z → raise (xs ++ ys) (ns ++ ms) ≡ some (xs ++ z)
raise_append [] [] ys ms z e h = h
raise_append [] (n ∷ ns) ys ms z e h = absurd (omega arith)
raise_append (x ∷ xs) [] ys ms z e h = absurd (omega arith)
raise_append (x ∷ xs) (n ∷ ns) ys ms z e h = rw (raise_append xs ns ys ms z (omega arith) h)

raise_up : (x n : ℕ) (xs ns : List ℕ) → raise xs ns ≡ none → suc x < n → raise (x ∷ xs) (n ∷ ns) ≡ some (suc x ∷ [])
raise_up x n xs ns h k = rw (h, lt-ltb (suc x) n k)

raise_stay : (x n : ℕ) (xs ns : List ℕ) → raise xs ns ≡ none → n ≤ suc x → raise (x ∷ xs) (n ∷ ns) ≡ none
raise_stay x n xs ns h k = rw (h, le-ltb (suc x) n k)

-- the entries from i on, of the i₀ that count, cannot go up, and are zero now, as all after them; those before i are as they were
pub record Seeking (e₀ ns : List ℕ) (i₀ : ℕ) (e : List ℕ) (i : ℕ) : Type 0 where
  pub within : i ≤ i₀
  pub sized : length e ≡ length e₀
  pub kept : take i e ≡ take i e₀
  pub stuck : raise (drop i (take i₀ e₀)) (drop i (take i₀ ns)) ≡ none
  pub zeroed : (k : ℕ) → i ≤ k → get_or e k 0 ≡ 0

pub seeking_all : (c : Choices) → Invariant c → c.used ≡ c.len → Seeking c.entries c.counts c.used c.entries c.used
seeking_all c s q = record { within = omega arith; sized = refl; kept = refl; stuck = rw (left_nil c.entries c.used c.used (omega arith)); zeroed = λ k a. s.zeroed k (omega arith) }

module _ (e₀ ns : List ℕ) (i₀ : ℕ) (roomy : i₀ ≤ length e₀) (counted : i₀ ≤ length ns) (e : List ℕ) (j : ℕ) (g : Seeking e₀ ns i₀ e (suc j)) where
  same_at : get_or e j 0 ≡ get_or e₀ j 0
  same_at = sym (get_or-take (suc j) e j 0 (omega arith)) ∙ ap (λ (l : List ℕ). get_or l j 0) g.kept ∙ get_or-take (suc j) e₀ j 0 (omega arith)

  same_before : take j e ≡ take j e₀
  same_before = sym (take-take j (suc j) e (omega arith)) ∙ ap (take j) g.kept ∙ take-take j (suc j) e₀ (omega arith)

  turn : get_or ns j 0 ≤ get_or e j 0 + 1 → Seeking e₀ ns i₀ (set e j 0) j
  turn h =
      record {
        within = omega arith;
        sized = simp length-set g.sized;
        kept = take-set-le j e j 0 (omega arith) ∙ same_before;
        stuck =
            rw (left_cons e₀ j i₀ (omega arith) roomy, left_cons ns j i₀ (omega arith) counted)
            (raise_stay (get_or e₀ j 0) (get_or ns j 0) (drop (suc j) (take i₀ e₀)) (drop (suc j) (take i₀ ns)) g.stuck (omega (arith, same_at)));
        zeroed = λ k a. zero_at k a (ℕ_discrete k j);
      }
    where
      zero_at : (k : ℕ) → j ≤ k → Dec (k ≡ j) → get_or (set e j 0) k 0 ≡ 0
      zero_at k a (yes q) = rw q (get_or-set_same e j 0 0 (omega arith))
      zero_at k a (no q) = get_or-set_other e j k 0 0 q ∙ g.zeroed k (omega (arith, q))

  raised : get_or e j 0 + 1 < get_or ns j 0 → raise (take i₀ e₀) (take i₀ ns) ≡ some (take (suc j) (set e j (get_or e j 0 + 1)))
  raised h =
      let a : raise (drop j (take i₀ e₀)) (drop j (take i₀ ns)) ≡ some (suc (get_or e₀ j 0) ∷ []) =
      rw (left_cons e₀ j i₀ (omega arith) roomy, left_cons ns j i₀ (omega arith) counted)
      (raise_up (get_or e₀ j 0) (get_or ns j 0) (drop (suc j) (take i₀ e₀)) (drop (suc j) (take i₀ ns)) g.stuck (omega (arith, same_at)))
      in
      let b = raise_append (take j (take i₀ e₀)) (take j (take i₀ ns)) (drop j (take i₀ e₀)) (drop j (take i₀ ns)) (suc (get_or e₀ j 0) ∷ []) (simp length-take (omega arith)) a in
      let l = rw (take-append-drop j (take i₀ e₀), take-append-drop j (take i₀ ns)) at b in
      let r : take (suc j) (set e j (get_or e j 0 + 1)) ≡ take j (take i₀ e₀) ++ suc (get_or e₀ j 0) ∷ [] =
      take-suc-set e j (get_or e j 0 + 1) (omega arith)
      ∙ ap₂ (λ (p : List ℕ) (x : ℕ). p ++ x ∷ []) (same_before ∙ sym (take-take j i₀ e₀ (omega arith))) (omega (arith, same_at))
      in
      rw r l

module _ (c : Choices) (s : Invariant c) (e : List ℕ) (i : ℕ) (g : Seeking c.entries c.counts c.used e i) where
  pub turn_at : (j : ℕ) → i ≡ suc j → get_or c.counts j 0 ≤ get_or e j 0 + 1 → Seeking c.entries c.counts c.used (set e j 0) j
  turn_at j q h = turn c.entries c.counts c.used (omega arith) (omega arith) e j (rw q at g) h

  pub raised_moved : (j : ℕ) → i ≡ suc j → get_or e j 0 + 1 < get_or c.counts j 0 → Moved c (record { more = true; state = record { entries = set e j (get_or e j 0 + 1); counts = c.counts; len = i; used = 0; grow = true } })
  raised_moved j q h =
      record {
        moved = rw q (raised c.entries c.counts c.used (omega arith) (omega arith) e j (rw q at g) h);
        viewed = refl;
        sound = record { used_within = omega arith; len_within = omega arith; entries_sized = simp length-set (omega arith); counts_sized = s.counts_sized; zeroed = λ k a. get_or-set_other e j k (get_or e j 0 + 1) 0 (omega arith) ∙ g.zeroed k a };
      }

  pub ended_moved : (d : Choices) → i ≤ 0 → Made [] true d → Moved c (record { more = false; state = d })
  ended_moved d h m =
      let q : i ≡ 0 = omega arith in
      let g₀ = rw q at g in
      record {
        moved = g₀.stuck;
        viewed = m.viewed ∙ ap (λ (l : List ℕ). fresh l true) (sym (ap (λ (v : View). v.left) m.viewed));
        sound = m.sound;
      }
