-- Lists that lead into a tree and to its leaves, and trees and runs without one choice too many: what the laws of paths and runs speak of.
use mathlib.Core.Path.{◌≡◌}
use mathlib.Core.List.{List, [], ◌∷◌}
use Prim.Native.Nat.{ℕ, zero, suc, ◌≤◌, ◌<◌}
use lib.ListN.{length}
use Rattle.choices.specs.Tree.{Tree, give, stop, choose, most_choices, stopped, run}
use Rattle.choices.specs.Outcome.{Outcome, value, refusal}

-- ---- lists that lead into a tree

-- l leads to a leaf.
abbrev pub LeadsToLeaf : {A : Type 0} → Tree A → List ℕ → Type 0
LeadsToLeaf (give a) [] = Unit {0}
LeadsToLeaf (give a) (c ∷ l) = ⊥
LeadsToLeaf (stop r p) [] = Unit {0}
LeadsToLeaf (stop r p) (c ∷ l) = ⊥
LeadsToLeaf (choose p n ways) [] = ⊥
LeadsToLeaf (choose p n ways) (c ∷ l) = (c < n) × LeadsToLeaf (ways c) l

-- l leads into the tree, and not past a leaf.
abbrev pub Prefix : {A : Type 0} → Tree A → List ℕ → Type 0
Prefix (give a) [] = Unit {0}
Prefix (give a) (c ∷ l) = ⊥
Prefix (stop r p) [] = Unit {0}
Prefix (stop r p) (c ∷ l) = ⊥
Prefix (choose p n ways) [] = Unit {0}
Prefix (choose p n ways) (c ∷ l) = (c < n) × Prefix (ways c) l

-- The outcome of the leaf that l, and then zeros, leads to.
abbrev pub outcome_at : {A : Type 0} → Tree A → List ℕ → Outcome A
outcome_at (give a) l = value a
outcome_at (stop r p) l = refusal r p
outcome_at (choose p n ways) [] = outcome_at (ways 0) []
outcome_at (choose p n ways) (c ∷ l) = outcome_at (ways c) l

-- ---- at most so many choices

-- No path has more than k choices.
abbrev pub AtMost : {A : Type 0} → ℕ → Tree A → Type 0
AtMost k (give a) = Unit {0}
AtMost k (stop r p) = Unit {0}
AtMost zero (choose p n ways) = ⊥
AtMost (suc k) (choose p n ways) = (i : ℕ) → i < n → AtMost k (ways i)

-- No run, under a list of up to 64 entries, meets a 65th choice: none ends in 31.
abbrev pub NoMany : {A : Type 0} → Tree A → Type 0
NoMany t = (l : List ℕ) (p : ℕ) (left : List ℕ) → length l ≤ most_choices → run t l ≡ stopped 31 p left → ⊥
