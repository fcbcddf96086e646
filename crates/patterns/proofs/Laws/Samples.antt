-- Document 01's samples of matching, by computation.
use Rattle.std.specs.Prelude.{◌≡◌, refl, List, [], ◌∷◌, map, ℕ, pos}
use Rattle.values.specs.Value.{Value, integer, collection, set, map as mapping, within}
use Rattle.values.specs.Entries.{flat}
use Rattle.integers.specs.Order.{order_ℕ, order_ℤ}
use Rattle.patterns.specs.Ways.{gather, exists, splits, proper, orders, at_every_place}
use Rattle.patterns.specs.Binding.{Binding, Cell, is, cell_of, sorted, place, order_bindings, together, with_each, consistent, merge}
use Rattle.patterns.specs.Pattern.{name, any, each, halved, nil, cons, items_of, list_of, entries_of, parts, matches, wide}
use Rattle.patterns.specs.Binder.{bindings, refused, formed}

abbrev whole : ℕ → Value
whole n = integer (pos n)

abbrev numbers : List ℕ → Value
numbers ns = collection set (items_of (map whole ns))

-- Key, value, key, value.
abbrev entries : List ℕ → Value
entries ns = collection mapping (items_of (map whole ns))

-- The value of a name in each binding.
abbrev shown : ℕ → List Binding → List Cell
shown x bs = map (λ b. cell_of b x) bs

-- To unfold this is to unfold everything that matching computes with.
unfoldable computing : ℕ
unfolding sorted place order_bindings gather exists splits proper matches wide together with_each consistent merge parts list_of items_of entries_of flat order_ℕ order_ℤ within orders at_every_place
computing = 0

-- {a, b} against {1, 2}: a is 1, then 2. Against {5} there is none.
pub pairs : shown 0 (bindings (each set (cons (name 0) (cons (name 1) nil))) (numbers (1 ∷ 2 ∷ []) ∷ [])) ≡ is (whole 1) ∷ is (whole 2) ∷ []
unfolding computing
pairs = refl

pub unequal : bindings (each set (cons (name 0) (cons (name 1) nil))) (numbers (5 ∷ []) ∷ []) ≡ []
unfolding computing
unequal = refl

-- {a |-> b, c |-> d} against {1 |-> 2, 3 |-> 4}: d is 4, then 2.
pub entry_pairs : shown 3 (bindings (each mapping (cons (name 0) (cons (name 1) (cons (name 2) (cons (name 3) nil))))) (entries (1 ∷ 2 ∷ 3 ∷ 4 ∷ []) ∷ [])) ≡ is (whole 4) ∷ is (whole 2) ∷ []
unfolding computing
entry_pairs = refl

-- a union b against {1, 2}: a is {1}, then {2}. Against {1} and {} there is none.
pub unions : shown 0 (bindings (halved set (name 0) (name 1)) (numbers (1 ∷ 2 ∷ []) ∷ [])) ≡ is (numbers (1 ∷ [])) ∷ is (numbers (2 ∷ [])) ∷ []
unfolding computing
unions = refl

pub unsplit : bindings (halved set (name 0) (name 1)) (numbers (1 ∷ []) ∷ numbers [] ∷ []) ≡ []
unfolding computing
unsplit = refl

-- a munion b against {1 |-> 2, 3 |-> 4}: a is {1 |-> 2}, then {3 |-> 4}. Against {1 |-> 2} and {|->} there is none.
pub munions : shown 0 (bindings (halved mapping (name 0) (name 1)) (entries (1 ∷ 2 ∷ 3 ∷ 4 ∷ []) ∷ [])) ≡ is (entries (1 ∷ 2 ∷ [])) ∷ is (entries (3 ∷ 4 ∷ [])) ∷ []
unfolding computing
munions = refl

pub unsplit_map : bindings (halved mapping (name 0) (name 1)) (entries (1 ∷ 2 ∷ []) ∷ entries [] ∷ []) ≡ []
unfolding computing
unsplit_map = refl

-- A set of 8 does not split, nor does a map of 8: 29.
pub eight : formed (halved set (name 0) any) (numbers (1 ∷ 2 ∷ 3 ∷ 4 ∷ 5 ∷ 6 ∷ 7 ∷ 8 ∷ []) ∷ []) ≡ refused 29
unfolding computing
eight = refl

pub eight_entries : formed (halved mapping (name 0) any) (entries (1 ∷ 0 ∷ 2 ∷ 0 ∷ 3 ∷ 0 ∷ 4 ∷ 0 ∷ 5 ∷ 0 ∷ 6 ∷ 0 ∷ 7 ∷ 0 ∷ 8 ∷ 0 ∷ []) ∷ []) ≡ refused 29
unfolding computing
eight_entries = refl
