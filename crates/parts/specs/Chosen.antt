-- Units that the bits of a number choose, and the splits by their number; for units of any type.
use Rattle.std.specs.Prelude.{Bool, cond, List, [], ◌∷◌, ℕ, ◌-◌, ◌/◌, ◌%◌, ◌^◌, eqb, ltb, length}
use Rattle.patterns.specs.Ways.{Halves, halves, to_left, to_right}

-- The first unit is chosen by the lowest bit, the next by the next.
abbrev pub odd : ℕ → Bool
odd m = eqb (m % 2) 1

unfoldable pub keep : {A : Type 0} → ℕ → List A → List A
keep m [] = []
keep m (x ∷ xs) = cond (odd m) (x ∷ keep (m / 2) xs) (keep (m / 2) xs)

-- A mask of at most fourteen bits, or this number for every unit, however many there are.
abbrev pub every_one : ℕ
every_one = 65535

unfoldable pub chosen : {A : Type 0} → ℕ → List A → List A
chosen m xs = cond (eqb m every_one) xs (keep m xs)

-- The d-th split: the first unit is on the left in the first half of them.
unfoldable pub split_at : {A : Type 0} → List A → ℕ → Halves A
split_at [] d = halves [] []
split_at (x ∷ xs) d = cond (ltb d (2 ^ length xs)) (to_left x (split_at xs d)) (to_right x (split_at xs (d - 2 ^ length xs)))
