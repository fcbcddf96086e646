-- A pattern that has parts (kinds 36 to 42), by its kind's number: the ways of what its parts meet. Contracts of matching, splitting and forming cite it.
use Rattle.std.specs.Prelude.{Bool, false, ◌||◌, cond, List, [], ◌∷◌, map, ℕ, eqb}
use Rattle.values.specs.Value.{Kind, set, sequence, map as mapping, tuple, Value}
use Rattle.patterns.specs.Ways.{Halves}
use Rattle.patterns.specs.Pattern.{contents, met, split, left_of, right_of, is_too_large}

-- The kind of the value that has such parts: 36 a tuple, 37 and 38 a set, 39 and 40 a sequence, 41 and 42 a map.
abbrev pub collection_of : ℕ → Kind
collection_of c = cond (eqb c 36) tuple (cond (eqb c 37 || eqb c 38) set (cond (eqb c 41 || eqb c 42) mapping sequence))

-- 38, 40 and 42 have two parts, for two halves.
abbrev pub is_halved : ℕ → Bool
is_halved c = eqb c 38 || (eqb c 40 || eqb c 42)

-- How many items a unit has.
abbrev pub width : Kind → ℕ
width set = 1
width sequence = 1
width mapping = 2
width tuple = 1

-- The two halves as values, the left one first.
abbrev pub both_halves : Kind → Halves Value → List Value
both_halves k h = left_of k h ∷ right_of k h ∷ []

-- What n parts of a pattern of kind c meet, in every way.
abbrev pub meetings : ℕ → ℕ → Value → List (List Value)
meetings c n v = cond (is_halved c) (map (both_halves (collection_of c)) (split (collection_of c) (contents (collection_of c) v))) (met (collection_of c) n (contents (collection_of c) v))

-- The set or map is too large to split.
abbrev pub is_large : ℕ → Value → Bool
is_large c v = cond (is_halved c) (is_too_large (collection_of c) (contents (collection_of c) v)) false
