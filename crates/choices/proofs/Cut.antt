-- A run never sees past one choice too many: the tree and the tree cut there are followed alike. Complete lists are the cut tree's paths.
use mathlib.Core.Path.{◌≡◌, refl, sym, ap, ◌∙◌, subst}
use mathlib.Core.Bool.{Bool, true, false, cond}
use mathlib.Core.Logic.{◌↔◌}
use mathlib.Core.List.{List, [], ◌∷◌}
use Prim.Native.Nat.{ℕ, zero, suc, ◌≤◌, ◌<◌}
use native.Mathlib.Omega.{arith}
use lib.ListN.{length}
use lib.Dec.{ltb}
use borrow.Author.Tests.{lt-ltb, ltb-true}
use Rattle.prelude.proofs.Absurd.{impossible}
use Rattle.prelude.specs.Membership.{In}
use Rattle.choices.specs.Tree.{Tree, give, stop, choose, most_choices, Full, stopped, beyond, follow, run, Gives}
use Rattle.choices.specs.Outcome.{Outcome}
use Rattle.choices.specs.Lists.{Ended, Complete, run_outcome}
use Rattle.choices.proofs.Leaves.{NoMany, LeadsToLeaf, outcome_at, AtMost}
use Rattle.choices.specs.Paths.{cut_after, all_lists}
use Rattle.choices.proofs.Paths.{leaf_in, in_leaf}

-- ---- the cut tree

pub within_cut : {A : Type 0} (k : ℕ) (t : Tree A) → AtMost k (cut_after k t)
within_cut k (give a) = tt
within_cut k (stop r p) = tt
within_cut zero (choose p n ways) = tt
within_cut (suc k) (choose p n ways) = λ i h. within_cut k (ways i)

pub full_cut : {A : Type 0} (k : ℕ) (t : Tree A) → Full t → Full (cut_after k t)
full_cut k (give a) f = tt
full_cut k (stop r p) f = tt
full_cut zero (choose p n ways) f = tt
full_cut (suc k) (choose p n ways) f = (f.0, λ i h. full_cut k (ways i) (f.1 i h))

-- Following the cut tree is following the tree.
follow_cut : {A : Type 0} (k : ℕ) (t : Tree A) (l : List ℕ) → follow (cut_after k t) k l ≡ follow t k l
follow_cut k (give a) l = refl
follow_cut k (stop r p) l = refl
follow_cut zero (choose p n ways) l = refl
follow_cut (suc k) (choose p n ways) [] = refl
follow_cut (suc k) (choose p n ways) (c ∷ l) = ap (λ r. cond (ltb c n) r (beyond p n (c ∷ l))) (follow_cut k (ways c) l)

-- Where no path has more than k choices the cut takes nothing away.
pub gives_cut : {A : Type 0} (k : ℕ) (t : Tree A) (o : Outcome A) → AtMost k t → Gives (cut_after k t) o ↔ Gives t o
gives_cut {A} k t o w = (out k t w, back k t w)
  where
    out : (k : ℕ) (t : Tree A) → AtMost k t → Gives (cut_after k t) o → Gives t o
    out k (give a) w h = h
    out k (stop r p) w h = h
    out zero (choose p n ways) w h = absurd w
    out (suc k) (choose p n ways) w h = (h.0, h.1, out k (ways h.0) (w h.0 h.1) h.2)

    back : (k : ℕ) (t : Tree A) → AtMost k t → Gives t o → Gives (cut_after k t) o
    back k (give a) w h = h
    back k (stop r p) w h = h
    back zero (choose p n ways) w h = absurd w
    back (suc k) (choose p n ways) w h = (h.0, h.1, back k (ways h.0) (w h.0 h.1) h.2)

-- A tree none of whose runs ends in 31 has at most so many choices on each path.
no_many : {A : Type 0} (k : ℕ) (t : Tree A) → ((l : List ℕ) (p : ℕ) (left : List ℕ) → length l ≤ k → follow t k l ≡ stopped 31 p left → ⊥) → AtMost k t
no_many k (give a) h = tt
no_many k (stop r p) h = tt
no_many zero (choose p n ways) h = absurd (h [] p [] (omega arith) refl)
no_many (suc k) (choose p n ways) h = λ i lt. no_many k (ways i) (λ l q left b e. h (i ∷ l) q left (omega arith) (rw (lt-ltb i n lt) e))

pub no_many_within : {A : Type 0} (t : Tree A) → NoMany t → AtMost most_choices t
no_many_within t h = no_many most_choices t h

-- ---- following to a leaf

cons≢nil : {c : ℕ} {l : List ℕ} → ◌≡◌ {A = List ℕ} (c ∷ l) [] → ⊥
cons≢nil e = impossible cc

-- A path's run ends at its leaf, with no entry left.
leaf_ended : {A : Type 0} (t : Tree A) (k : ℕ) (l : List ℕ) → AtMost k t → LeadsToLeaf t l → Ended (follow t k l) × (run_outcome (follow t k l) ≡ outcome_at t l)
leaf_ended (give a) k [] w h = (refl, refl)
leaf_ended (give a) k (c ∷ l) w h = absurd h
leaf_ended (stop r p) k [] w h = (refl, refl)
leaf_ended (stop r p) k (c ∷ l) w h = absurd h
leaf_ended (choose p n ways) zero l w h = absurd w
leaf_ended (choose p n ways) (suc k) [] w h = absurd h
leaf_ended (choose p n ways) (suc k) (c ∷ l) w h = rw (lt-ltb c n h.0) (leaf_ended (ways c) k l (w c h.0) h.1)

ended_leaf : {A : Type 0} (t : Tree A) (k : ℕ) (l : List ℕ) → AtMost k t → Ended (follow t k l) → LeadsToLeaf t l
ended_leaf (give a) k [] w h = tt
ended_leaf (give a) k (c ∷ l) w h = absurd (cons≢nil h)
ended_leaf (stop r p) k [] w h = tt
ended_leaf (stop r p) k (c ∷ l) w h = absurd (cons≢nil h)
ended_leaf (choose p n ways) zero l w h = absurd w
ended_leaf (choose p n ways) (suc k) [] w h = absurd h
ended_leaf (choose p n ways) (suc k) (c ∷ l) w h = go (ltb c n) refl (λ lt e. ended_leaf (ways c) k l (w c lt) e) h
  where
    go : (b : Bool) → ltb c n ≡ b → (c < n → Ended (follow (ways c) k l) → LeadsToLeaf (ways c) l) → Ended (cond b (follow (ways c) k l) (beyond p n (c ∷ l))) → (c < n) × LeadsToLeaf (ways c) l
    go true e rec d = (ltb-true c n e, rec (ltb-true c n e) d)
    go false e rec d = absurd d

-- A path has no more entries than choices are allowed.
leaf_length : {A : Type 0} (k : ℕ) (t : Tree A) (l : List ℕ) → AtMost k t → LeadsToLeaf t l → length l ≤ k
leaf_length k (give a) [] w h = omega arith
leaf_length k (give a) (c ∷ l) w h = absurd h
leaf_length k (stop r p) [] w h = omega arith
leaf_length k (stop r p) (c ∷ l) w h = absurd h
leaf_length zero (choose p n ways) l w h = absurd w
leaf_length (suc k) (choose p n ways) [] w h = absurd h
leaf_length (suc k) (choose p n ways) (c ∷ l) w h = omega (arith, leaf_length k (ways c) l (w c h.0) h.1)

-- ---- complete lists

module _ {A : Type 0} (t : Tree A) (l : List ℕ) where
  pub complete_leaf : Complete t l → LeadsToLeaf (cut_after most_choices t) l
  complete_leaf h = ended_leaf (cut_after most_choices t) most_choices l (within_cut most_choices t) (subst Ended (sym (follow_cut most_choices t l)) h)

  pub leaf_complete : LeadsToLeaf (cut_after most_choices t) l → Complete t l
  leaf_complete h = subst Ended (follow_cut most_choices t l) (leaf_ended (cut_after most_choices t) most_choices l (within_cut most_choices t) h).0

  -- A list is complete exactly when it is the path of a leaf of the cut tree.
  pub complete_path : Complete t l ↔ In l (all_lists t)
  complete_path = (λ h. leaf_in (cut_after most_choices t) l (complete_leaf h), λ h. leaf_complete (in_leaf (cut_after most_choices t) l h))

  pub complete_outcome : Complete t l → run_outcome (run t l) ≡ outcome_at (cut_after most_choices t) l
  complete_outcome h = ap run_outcome (sym (follow_cut most_choices t l)) ∙ (leaf_ended (cut_after most_choices t) most_choices l (within_cut most_choices t) (complete_leaf h)).1

  -- A complete list has at most 64 entries.
  pub complete_length : Complete t l → length l ≤ most_choices
  complete_length h = leaf_length most_choices (cut_after most_choices t) l (within_cut most_choices t) (complete_leaf h)
