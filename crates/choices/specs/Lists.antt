-- The complete lists of a tree, their order, and how many come before a list.
use Rattle.std.specs.Prelude.{◌≡◌, ◌⊎◌, ◌↔◌, List, [], ◌∷◌, ◌++◌, ℕ, ◌-◌, ◌<◌, length, replicate}
use Rattle.prelude.specs.Membership.{In}
use Rattle.choices.specs.Tree.{Tree, most_choices, Run, gave, stopped, short, beyond, run}
use Rattle.choices.specs.Outcome.{Outcome, value, refusal}

-- The run ended in a value or in 20 to 31, with no entry left.
abbrev pub Ended : {A : Type 0} → Run A → Type 0
Ended (gave a k l) = l ≡ []
Ended (stopped r p l) = l ≡ []
Ended (short p n) = ⊥
Ended (beyond p n l) = ⊥

-- A list is complete when its run ends in a value or 20 to 31 with no entry left. So it has at most 64 entries.
abbrev pub Complete : {A : Type 0} → Tree A → List ℕ → Type 0
Complete t l = Ended (run t l)

-- The outcome of a run: its value or refusal.
abbrev pub run_outcome : {A : Type 0} → Run A → Outcome A
run_outcome (gave a k l) = value a
run_outcome (stopped r p l) = refusal r p
run_outcome (short p n) = refusal 32 p
run_outcome (beyond p n l) = refusal 33 p

-- Dictionary order: by the first entry that differs, a prefix first.
abbrev pub before : List ℕ → List ℕ → Type 0
before [] [] = ⊥
before [] (d ∷ m) = Unit {0}
before (c ∷ l) [] = ⊥
before (c ∷ l) (d ∷ m) = (c < d) ⊎ ((c ≡ d) × before l m)

-- Strictly ascending: each stands before all that follow it.
abbrev pub AscendingLists : List (List ℕ) → Type 0
AscendingLists [] = Unit {0}
AscendingLists (l ∷ ls) = ((m : List ℕ) → In m ls → before l m) × AscendingLists ls

-- Exactly k complete lists come before l: they are the members of a strictly ascending list of length k.
pub record CountBefore {A : Type 0} (t : Tree A) (l : List ℕ) (k : ℕ) : Type 0 where
  pub lists : List (List ℕ)
  pub ascending : AscendingLists lists
  pub exactly : (m : List ℕ) → In m lists ↔ (Complete t m × before m l)
  pub number : length lists ≡ k

-- l is the first complete list.
pub record First {A : Type 0} (t : Tree A) (l : List ℕ) : Type 0 where
  pub complete : Complete t l
  pub least : (m : List ℕ) → Complete t m → before m l → ⊥

-- m is the next complete list after l.
pub record Next {A : Type 0} (t : Tree A) (l m : List ℕ) : Type 0 where
  pub complete : Complete t m
  pub after : before l m
  pub between : (x : List ℕ) → Complete t x → before l x → before x m → ⊥

-- The 64 entries of a walk that holds l: the list, and zeros after its end.
abbrev pub padded : List ℕ → List ℕ
padded l = l ++ replicate (most_choices - length l) 0
