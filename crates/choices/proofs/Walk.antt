-- The walk: the first complete list, the next after each, how many come before, and what lists that are not complete answer.
-- All of it holds for every tree whose choices have a way each, also where some run meets one choice too many.
use mathlib.Core.Path.{◌≡◌, refl, sym, ap, ◌∙◌, subst}
use mathlib.Core.Bool.{Bool, true, false, cond}
use mathlib.Core.Logic.{◌⊎◌, inl, inr, ⊎_elim, ◌↔◌}
use mathlib.Core.Option.{Option, none, some}
use mathlib.Core.List.{List, [], ◌∷◌}
use Prim.Native.Nat.{ℕ, zero, suc, ◌≤◌, ◌<◌}
use native.Mathlib.Omega.{arith}
use native.Mathlib.Decide.{ℕ_discrete, dec_lt}
use lib.ListN.{length, get_or, take}
use lib.Seq.{length-take-le}
use lib.Dec.{ltb}
use borrow.Author.Tests.{ltb-true}
use Rattle.prelude.proofs.Absurd.{impossible}
use Rattle.prelude.proofs.Membership.{at_in, in_at, in_take}
use Rattle.choices.specs.Tree.{Tree, give, stop, choose, most_choices, Full, Numbered, Run, gave, stopped, short, beyond, follow, run, Final, result, refuses, final}
use Rattle.choices.specs.Outcome.{Outcome, value, refusal}
use Rattle.choices.specs.Lists.{Ended, Complete, run_outcome, before, CountBefore, First, Next}
use Rattle.choices.specs.Paths.{cut_after, all_lists, first_list, next_list}
use Rattle.choices.proofs.Order.{before_irrefl, before_asym, before_total, asc_take, take_before, before_take, asc_at, asc_same}
use Rattle.choices.proofs.Paths.{paths_ascend}
use Rattle.choices.proofs.Steps.{first_path_lem, next-some, next-none}
use Rattle.choices.proofs.Cut.{full_cut, complete_path}

-- ---- there is one count, one first and one next

count_unique : {A : Type 0} (t : Tree A) (l : List ℕ) (j k : ℕ) → CountBefore t l j → CountBefore t l k → j ≡ k
count_unique t l j k a b =
    sym a.number
    ∙ ap length (asc_same a.lists b.lists a.ascending b.ascending (λ m. (λ h. (b.exactly m).1 ((a.exactly m).0 h), λ h. (a.exactly m).1 ((b.exactly m).0 h))))
    ∙ b.number

pub first_unique : {A : Type 0} (t : Tree A) (l m : List ℕ) → First t l → First t m → l ≡ m
first_unique t l m a b = ⊎_elim (λ h. absurd (b.least l a.complete h)) (⊎_elim (λ e. e) (λ h. absurd (a.least m b.complete h))) (before_total l m)

pub next_unique : {A : Type 0} (t : Tree A) (l m n : List ℕ) → Next t l m → Next t l n → m ≡ n
next_unique t l m n a b =
    ⊎_elim (λ h. absurd (b.between m a.complete a.after h)) (⊎_elim (λ e. e) (λ h. absurd (a.between n b.complete b.after h))) (before_total m n)

-- ---- complete lists by their index among the paths

module _ {A : Type 0} (t : Tree A) where
  -- a complete list stands at an index
  at : (l : List ℕ) → Complete t l → (j : ℕ) × (j < length (all_lists t)) × (l ≡ get_or (all_lists t) j [])
  at l h = in_at l (all_lists t) [] ((complete_path t l).0 h)

  complete_at : (j : ℕ) → j < length (all_lists t) → Complete t (get_or (all_lists t) j [])
  complete_at j h = (complete_path t (get_or (all_lists t) j [])).1 (at_in (all_lists t) j [] h)

  -- as many come before it as its index says
  count_at : (j : ℕ) → j < length (all_lists t) → CountBefore t (get_or (all_lists t) j []) j
  count_at j h =
      record {
        lists = take j (all_lists t);
        ascending = asc_take (all_lists t) j (paths_ascend (cut_after most_choices t));
        exactly = λ m. (
          λ i. ((complete_path t m).1 (in_take m (all_lists t) j i), take_before (all_lists t) j m (paths_ascend (cut_after most_choices t)) h i),
          λ w. before_take (all_lists t) j m (paths_ascend (cut_after most_choices t)) h ((complete_path t m).0 w.0) w.1,
        );
        number = length-take-le j (all_lists t) (omega arith);
      }

  -- of two indices the lower has the list that comes before
  lower : (i j : ℕ) → i < length (all_lists t) → j < length (all_lists t) → before (get_or (all_lists t) i []) (get_or (all_lists t) j []) → i < j
  lower i j hi hj b = go (dec_lt i j) (ℕ_discrete i j)
    where
      go : Dec (i < j) → Dec (i ≡ j) → i < j
      go (yes h) d = h
      go (no h) (yes e) = absurd (before_irrefl (get_or (all_lists t) j []) (subst (λ (x : ℕ). before (get_or (all_lists t) x []) (get_or (all_lists t) j [])) e b))
      go (no h) (no n) =
          absurd (before_asym (get_or (all_lists t) i []) (get_or (all_lists t) j []) b (asc_at (all_lists t) j i (paths_ascend (cut_after most_choices t)) (omega (arith, n)) hi))

  -- Every complete list has a number of complete lists before it.
  counted : (l : List ℕ) → Complete t l → (k : ℕ) × CountBefore t l k
  counted l h = let w = at l h in (w.0, subst (λ (x : List ℕ). CountBefore t x w.0) (sym w.2) (count_at w.0 w.1))

  index_is : (l : List ℕ) (k : ℕ) (h : Complete t l) → CountBefore t l k → k ≡ (at l h).0
  index_is l k h c = let w = at l h in count_unique t l k w.0 c (subst (λ (x : List ℕ). CountBefore t x w.0) (sym w.2) (count_at w.0 w.1))

  -- ---- first and next

  module _ (f : Full t) where
    -- None comes before the first list.
    pub count_first : CountBefore t (first_list t) 0
    count_first = let w = first_path_lem (cut_after most_choices t) (full_cut most_choices t f) in subst (λ (x : List ℕ). CountBefore t x 0) w.1 (count_at 0 w.0)

    -- The first list is the first complete list.
    pub first_list_lem : First t (first_list t)
    first_list_lem =
        let w = first_path_lem (cut_after most_choices t) (full_cut most_choices t f) in
        record {
          complete = subst (Complete t) w.1 (complete_at 0 w.0);
          least = λ m h b. let v = at m h in let i = lower v.0 0 v.1 w.0 (subst (before (get_or (all_lists t) v.0 [])) (sym w.1) (subst (λ (x : List ℕ). before x (first_list t)) v.2 b)) in omega arith;
        }

    module _ (l : List ℕ) (h : Complete t l) where
      -- the next list stands at the index after l's
      found : (m : List ℕ) → next_list t l ≡ some m → (suc (at l h).0 < length (all_lists t)) × (m ≡ get_or (all_lists t) (suc (at l h).0) [])
      found m e = let w = at l h in next-some (cut_after most_choices t) (full_cut most_choices t f) w.0 m w.1 (ap (next_list t) (sym w.2) ∙ e)

      -- The next list is the next complete list.
      pub next_list_lem : (m : List ℕ) → next_list t l ≡ some m → Next t l m
      next_list_lem m e =
          let w = at l h in
          let s = found m e in
          record {
            complete = subst (Complete t) (sym s.1) (complete_at (suc w.0) s.0);
            after = subst (before l) (sym s.1) (subst (λ (x : List ℕ). before x (get_or (all_lists t) (suc w.0) [])) (sym w.2) (asc_at (all_lists t) w.0 (suc w.0) (paths_ascend (cut_after most_choices t)) (omega arith) s.0));
            between = λ x c a b.
                let v = at x c in
                let p = lower w.0 v.0 w.1 v.1 (subst (before (get_or (all_lists t) w.0 [])) v.2 (subst (λ (y : List ℕ). before y x) w.2 a)) in
                let q = lower v.0 (suc w.0) v.1 s.0 (subst (before (get_or (all_lists t) v.0 [])) s.1 (subst (λ (y : List ℕ). before y m) v.2 b)) in
                omega arith;
          }

      -- It has exactly one more before it.
      pub count_next : (m : List ℕ) (k : ℕ) → next_list t l ≡ some m → CountBefore t l k → CountBefore t m (suc k)
      count_next m k e c =
          let s = found m e in
          subst (λ (x : List ℕ). CountBefore t x (suc k)) (sym s.1)
          (subst (λ (j : ℕ). CountBefore t (get_or (all_lists t) (suc (at l h).0) []) (suc j)) (sym (index_is l k h c)) (count_at (suc (at l h).0) s.0))

      -- There is no next list exactly when no complete list comes after.
      pub next_last : (next_list t l ≡ none) ↔ ((m : List ℕ) → Complete t m → before l m → ⊥)
      next_last = (
        λ e m c b.
            let w = at l h in
            let v = at m c in
            let q = next-none (cut_after most_choices t) (full_cut most_choices t f) w.0 w.1 (ap (next_list t) (sym w.2) ∙ e) in
            let p = lower w.0 v.0 w.1 v.1 (subst (before (get_or (all_lists t) w.0 [])) v.2 (subst (λ (y : List ℕ). before y m) w.2 b)) in
            omega (arith, v.1),
        λ last. go last (next_list t l) refl,
      )
        where
          go : ((m : List ℕ) → Complete t m → before l m → ⊥) → (o : Option (List ℕ)) → next_list t l ≡ o → o ≡ none
          go last none e = refl
          go last (some m) e = let n = next_list_lem m e in absurd (last m n.complete n.after)

      -- A next complete list is found.
      pub next_found : (m : List ℕ) → Next t l m → next_list t l ≡ some m
      next_found m n = go (next_list t l) refl
        where
          go : (o : Option (List ℕ)) → next_list t l ≡ o → o ≡ some m
          go none e = absurd (next_last.0 e m n.complete n.after)
          go (some x) e = ap some (next_unique t l x m (next_list_lem x e) n)

-- ---- lists that are complete, and others

-- The answer 32, 33 or 34.
abbrev pub Incomplete : {A : Type 0} → Final A → Type 0
Incomplete (result a) = ⊥
Incomplete (refuses r p n) = (r ≡ 32) ⊎ ((r ≡ 33) ⊎ (r ≡ 34))

not_ended : {A : Type 0} (last : ℕ) (r : Run A) → (Ended r → ⊥) → Incomplete (final last r)
not_ended last (gave a k []) h = absurd (h refl)
not_ended last (gave a k (c ∷ l)) h = inr (inr refl)
not_ended last (stopped r p []) h = absurd (h refl)
not_ended last (stopped r p (c ∷ l)) h = inr (inr refl)
not_ended last (short p n) h = inl refl
not_ended last (beyond p n l) h = inr (inl refl)

-- A list that is not complete answers 32, 33 or 34.
pub incomplete : {A : Type 0} (t : Tree A) (l : List ℕ) (last : ℕ) → (Complete t l → ⊥) → Incomplete (final last (run t l))
incomplete t l last h = not_ended last (run t l) h

abbrev pub final_of : {A : Type 0} → Outcome A → Final A
final_of (value a) = result a
final_of (refusal r p) = refuses r p 0

ended_final : {A : Type 0} (last : ℕ) (r : Run A) → Ended r → final last r ≡ final_of (run_outcome r)
ended_final last (gave a k []) h = refl
ended_final last (gave a k (c ∷ l)) h = impossible cc
ended_final last (stopped r p []) h = refl
ended_final last (stopped r p (c ∷ l)) h = impossible cc
ended_final last (short p n) h = absurd h
ended_final last (beyond p n l) h = absurd h

-- A complete list answers its outcome.
pub complete_final : {A : Type 0} (t : Tree A) (l : List ℕ) (last : ℕ) → Complete t l → final last (run t l) ≡ final_of (run_outcome (run t l))
complete_final t l last h = ended_final last (run t l) h

-- A run that is stopped is stopped by one of 20 to 31.
pub stopped_number : {A : Type 0} (t : Tree A) (k : ℕ) (l : List ℕ) (r p : ℕ) (left : List ℕ) → Numbered t → follow t k l ≡ stopped r p left → (20 ≤ r) × (r ≤ 31)
stopped_number (give a) k l r p left n e = impossible cc
stopped_number (stop s q) k l r p left n e = let d : s ≡ r = cc in (omega (arith, n.0), omega (arith, n.1))
stopped_number (choose q m ways) zero l r p left n e = let d : ◌≡◌ {A = ℕ} 31 r = cc in (omega arith, omega arith)
stopped_number (choose q m ways) (suc k) [] r p left n e = impossible cc
stopped_number {A} (choose q m ways) (suc k) (c ∷ l) r p left n e = go (ltb c m) refl (λ lt d. stopped_number (ways c) k l r p left (n c lt) d) e
  where
    go : (b : Bool) → ltb c m ≡ b → (c < m → follow (ways c) k l ≡ stopped r p left → (20 ≤ r) × (r ≤ 31)) → cond b (follow (ways c) k l) (beyond q m (c ∷ l)) ≡ stopped r p left → (20 ≤ r) × (r ≤ 31)
    go true h rec d = rec (ltb-true c m h) d
    go false h rec d = impossible cc

-- A value, or a refusal below 32.
abbrev pub Settles : {A : Type 0} → Final A → Type 0
Settles (result a) = Unit {0}
Settles (refuses r p n) = r < 32

whole_ended : {A : Type 0} (last : ℕ) (r : Run A) → Settles (final last r) → Ended r
whole_ended last (gave a k []) h = refl
whole_ended last (gave a k (c ∷ l)) h = absurd (omega arith)
whole_ended last (stopped r p []) h = refl
whole_ended last (stopped r p (c ∷ l)) h = absurd (omega arith)
whole_ended last (short p n) h = absurd (omega arith)
whole_ended last (beyond p n l) h = absurd (omega arith)

ended_whole : {A : Type 0} (last : ℕ) (r : Run A) → ((n p : ℕ) (l : List ℕ) → r ≡ stopped n p l → n ≤ 31) → Ended r → Settles (final last r)
ended_whole last (gave a k []) m h = tt
ended_whole last (gave a k (c ∷ l)) m h = impossible cc
ended_whole last (stopped r p []) m h = omega (arith, m r p [] refl)
ended_whole last (stopped r p (c ∷ l)) m h = impossible cc
ended_whole last (short p n) m h = absurd h
ended_whole last (beyond p n l) m h = absurd h

-- A list is complete exactly when it finally answers a value or a refusal below 32.
pub complete_whole : {A : Type 0} (t : Tree A) (l : List ℕ) (last : ℕ) → Numbered t → Complete t l ↔ Settles (final last (run t l))
complete_whole t l last m = (ended_whole last (run t l) (λ r p left e. (stopped_number t most_choices l r p left m e).1), whole_ended last (run t l))
