-- The ways to take units apart, for units of any type: members of a set, items of a sequence, entries of a map.
use Rattle.std.specs.Prelude.{Bool, true, false, ◌&&◌, ◌||◌, cond, List, [], ◌∷◌, ◌++◌, map, ℕ, zero, suc, ◌*◌}

-- What f gives for each, one after the other.
unfoldable pub gather : {A B : Type 0} → List A → (A → List B) → List B
gather [] f = []
gather (x ∷ xs) f = f x ++ gather xs f

-- Is it so for one of them?
unfoldable pub exists : {A : Type 0} → List A → (A → Bool) → Bool
exists [] f = false
exists (x ∷ xs) f = f x || exists xs f

-- Two halves.
pub record Halves (A : Type 0) : Type 0 where
  pub left : List A
  pub right : List A

abbrev pub halves : {A : Type 0} → List A → List A → Halves A
halves l r = record { left = l; right = r }

abbrev pub to_left : {A : Type 0} → A → Halves A → Halves A
to_left x h = halves (x ∷ h.left) h.right

abbrev pub to_right : {A : Type 0} → A → Halves A → Halves A
to_right x h = halves h.left (x ∷ h.right)

-- Every split of the units: each goes to one half, empty halves too (source 001, SetChop).
unfoldable pub splits : {A : Type 0} → List A → List (Halves A)
splits [] = halves [] [] ∷ []
splits (x ∷ xs) = map (to_left x) (splits xs) ++ map (to_right x) (splits xs)

abbrev pub is_non_empty : {A : Type 0} → List A → Bool
is_non_empty [] = false
is_non_empty (x ∷ xs) = true

-- A split is proper where neither half is empty.
abbrev pub is_proper : {A : Type 0} → Halves A → Bool
is_proper h = is_non_empty h.left && is_non_empty h.right

-- Those of them that are proper.
unfoldable pub proper : {A : Type 0} → List (Halves A) → List (Halves A)
proper [] = []
proper (h ∷ hs) = cond (is_proper h) (h ∷ proper hs) (proper hs)

-- Every split of the units in which neither half is empty (wish 1).
abbrev pub proper_splits : {A : Type 0} → List A → List (Halves A)
proper_splits xs = proper (splits xs)

-- Every cut of the units in two, empty parts too.
unfoldable pub cuts : {A : Type 0} → List A → List (Halves A)
cuts [] = halves [] [] ∷ []
cuts (x ∷ xs) = halves [] (x ∷ xs) ∷ map (to_left x) (cuts xs)

-- The units with one more, at every place.
unfoldable pub at_every_place : {A : Type 0} → A → List A → List (List A)
at_every_place x [] = (x ∷ []) ∷ []
at_every_place x (y ∷ ys) = (x ∷ y ∷ ys) ∷ map (λ zs. y ∷ zs) (at_every_place x ys)

-- Every order of the units.
unfoldable pub orders : {A : Type 0} → List A → List (List A)
orders [] = [] ∷ []
orders (x ∷ xs) = gather (orders xs) (at_every_place x)

-- How many orders so many units have.
unfoldable pub factorial : ℕ → ℕ
factorial zero = 1
factorial (suc n) = factorial n * suc n
