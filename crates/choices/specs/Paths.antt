-- The paths to a tree's leaves, of any length; the first, and the one after a path; and the tree cut where a run must stop.
use Rattle.std.proofs.Math.Option.{Option, none, some}
use Rattle.std.specs.Prelude.{List, [], ◌∷◌, ◌++◌, ℕ, zero, suc, ltb, cond}
use Rattle.choices.specs.Tree.{Tree, give, stop, choose, most_choices}

-- The numbers of ways met along l.
abbrev pub counts : {A : Type 0} → Tree A → List ℕ → List ℕ
counts (give a) l = []
counts (stop r p) l = []
counts (choose p n ways) [] = []
counts (choose p n ways) (c ∷ l) = n ∷ counts (ways c) l

-- ---- all paths, from left to right

-- Each with c before it.
abbrev pub prefixed : ℕ → List (List ℕ) → List (List ℕ)
prefixed c [] = []
prefixed c (l ∷ ls) = (c ∷ l) ∷ prefixed c ls

-- The lists of h c, h (c + 1), .., m of them, each under its number.
abbrev pub fan : ℕ → ℕ → (ℕ → List (List ℕ)) → List (List ℕ)
fan c zero h = []
fan c (suc m) h = prefixed c (h c) ++ fan (suc c) m h

abbrev pub paths : {A : Type 0} → Tree A → List (List ℕ)
paths (give a) = [] ∷ []
paths (stop r p) = [] ∷ []
paths (choose p n ways) = fan 0 n (λ c. paths (ways c))

-- ---- from one path to the next

-- The entries of l, and then zeros to a leaf.
abbrev pub extend : {A : Type 0} → Tree A → List ℕ → List ℕ
extend (give a) l = []
extend (stop r p) l = []
extend (choose p n ways) [] = 0 ∷ extend (ways 0) []
extend (choose p n ways) (c ∷ l) = c ∷ extend (ways c) l

-- The path of zeros.
abbrev pub first_path : {A : Type 0} → Tree A → List ℕ
first_path t = extend t []

-- c before what is there, else o.
abbrev pub cons_or : ℕ → Option (List ℕ) → Option (List ℕ) → Option (List ℕ)
cons_or c (some l) o = some (c ∷ l)
cons_or c none o = o

-- The last entry that can go up below its number of ways goes up by 1, and what follows it is cut. None where no entry can.
abbrev pub raise : List ℕ → List ℕ → Option (List ℕ)
raise [] ns = none
raise (c ∷ l) [] = none
raise (c ∷ l) (n ∷ ns) = cons_or c (raise l ns) (cond (ltb (suc c) n) (some (suc c ∷ [])) none)

abbrev pub on_some : (List ℕ → List ℕ) → Option (List ℕ) → Option (List ℕ)
on_some f none = none
on_some f (some l) = some (f l)

-- The path after l.
abbrev pub next_path : {A : Type 0} → Tree A → List ℕ → Option (List ℕ)
next_path t l = on_some (extend t) (raise l (counts t l))

-- ---- the tree cut where a run must stop

-- The tree cut after k choices: one more is 31 at its place.
abbrev pub cut_after : {A : Type 0} → ℕ → Tree A → Tree A
cut_after k (give a) = give a
cut_after k (stop r p) = stop r p
cut_after zero (choose p n ways) = stop 31 p
cut_after (suc k) (choose p n ways) = choose p n (λ i. cut_after k (ways i))

-- The lists that a walk over the tree's runs shows, in order; the first of them, and the one after l.
abbrev pub all_lists : {A : Type 0} → Tree A → List (List ℕ)
all_lists t = paths (cut_after most_choices t)

abbrev pub first_list : {A : Type 0} → Tree A → List ℕ
first_list t = first_path (cut_after most_choices t)

abbrev pub next_list : {A : Type 0} → Tree A → List ℕ → Option (List ℕ)
next_list t l = next_path (cut_after most_choices t) l
