-- One small table for each pattern kind, and for what matching says of names, kinds and counts. (Every pairing and split of a map stand in Prints.)
use Rattle.std.specs.Prelude.{◌≡◌, refl, true, List, [], ◌∷◌, ℕ, pos}
use Rattle.choices.specs.Tree.{result, refuses}
use Rattle.integers.specs.Bytes.{pair, integer_bytes}
use Rattle.values.specs.Value.{boolean, collection, set, sequence, tuple, none}
use Rattle.meaning.specs.Service.{scratch_bytes, checks}
use Rattle.samples.specs.Notation.{row, rows, flag, whole, quoted, name, operation, P, n, below0, of, walk, alone, computing}

-- let - = 1 in 2 = 2
pub any_matches : walk (rows (row 33 [] ∷ whole 1 ∷ whole 2 ∷ row 12 (0 ∷ 1 ∷ 2 ∷ []) ∷ [])) ≡ alone (result (n 2))
unfolding computing
any_matches = refl

-- let mk_(true, a) in set {mk_(false, 1), mk_(true, 2)} be st true in a = 2
pub boolean_matches : walk (rows (row 34 (1 ∷ []) ∷ P 0 ∷ row 36 (0 ∷ 1 ∷ []) ∷ flag 0 ∷ whole 1 ∷ row 10 (3 ∷ 4 ∷ []) ∷ flag 1 ∷ whole 2 ∷ row 10 (6 ∷ 7 ∷ []) ∷ row 7 (5 ∷ 8 ∷ []) ∷ flag 1 ∷ name 0 ∷ row 13 (2 ∷ 9 ∷ 10 ∷ 11 ∷ []) ∷ [])) ≡ (0 ∷ [], result (n 2)) ∷ []
unfolding computing
boolean_matches = refl

-- let mk_(a, 2) in set {mk_(false, 1), mk_(true, 2)} be st true in a = true
pub integer_matches : walk (rows (P 0 ∷ row 35 (integer_bytes (pos 2)) ∷ row 36 (0 ∷ 1 ∷ []) ∷ flag 0 ∷ whole 1 ∷ row 10 (3 ∷ 4 ∷ []) ∷ flag 1 ∷ whole 2 ∷ row 10 (6 ∷ 7 ∷ []) ∷ row 7 (5 ∷ 8 ∷ []) ∷ flag 1 ∷ name 0 ∷ row 13 (2 ∷ 9 ∷ 10 ∷ 11 ∷ []) ∷ [])) ≡ (0 ∷ [], result (boolean true)) ∷ []
unfolding computing
integer_matches = refl

-- let mk_(<1>, a) in set {mk_(<0>, 1), mk_(<1>, 2)} be st true in a = 2
pub quote_matches : walk (rows (row 43 (pair 1) ∷ P 0 ∷ row 36 (0 ∷ 1 ∷ []) ∷ quoted 0 ∷ whole 1 ∷ row 10 (3 ∷ 4 ∷ []) ∷ quoted 1 ∷ whole 2 ∷ row 10 (6 ∷ 7 ∷ []) ∷ row 7 (5 ∷ 8 ∷ []) ∷ flag 1 ∷ name 0 ∷ row 13 (2 ∷ 9 ∷ 10 ∷ 11 ∷ []) ∷ [])) ≡ (0 ∷ [], result (n 2)) ∷ []
unfolding computing
quote_matches = refl

-- let <1> = <1> in 5 = 5: no choice; let <1> = <2> in 5: 23, and let <1> = 1 in 5: 23
abbrev against : List ℕ → List ℕ
against value = rows (row 43 (pair 1) ∷ value ∷ whole 5 ∷ row 12 (0 ∷ 1 ∷ 2 ∷ []) ∷ [])

pub quote_alone : walk (against (quoted 1)) ≡ alone (result (n 5))
unfolding computing
quote_alone = refl

pub other_quote_unmatched : walk (against (quoted 2)) ≡ alone (refuses 23 3 0)
unfolding computing
other_quote_unmatched = refl

pub integer_unmatched : walk (against (whole 1)) ≡ alone (refuses 23 3 0)
unfolding computing
integer_unmatched = refl

-- let mk_(a, b) = mk_(1, 2) in a - b = -1: no choice
pub tuple_matches : walk (rows (P 0 ∷ P 1 ∷ row 36 (0 ∷ 1 ∷ []) ∷ whole 1 ∷ whole 2 ∷ row 10 (3 ∷ 4 ∷ []) ∷ name 0 ∷ name 1 ∷ operation 8 6 7 ∷ row 12 (2 ∷ 5 ∷ 8 ∷ []) ∷ [])) ≡ alone (result (below0 1))
unfolding computing
tuple_matches = refl

-- let {a, b} = {1, 2} in mk_(a, b): every pairing
pub set_matches : walk (rows (P 0 ∷ P 1 ∷ row 37 (0 ∷ 1 ∷ []) ∷ whole 1 ∷ whole 2 ∷ row 7 (3 ∷ 4 ∷ []) ∷ name 0 ∷ name 1 ∷ row 10 (6 ∷ 7 ∷ []) ∷ row 12 (2 ∷ 5 ∷ 8 ∷ []) ∷ [])) ≡ (0 ∷ [], result (collection tuple (of (n 1 ∷ n 2 ∷ [])))) ∷ (1 ∷ [], result (collection tuple (of (n 2 ∷ n 1 ∷ [])))) ∷ []
unfolding computing
set_matches = refl

-- let a union {b} = {1, 2} in a: {1}, then {2}
pub union_matches : walk (rows (P 0 ∷ P 1 ∷ row 37 (1 ∷ []) ∷ row 38 (0 ∷ 2 ∷ []) ∷ whole 1 ∷ whole 2 ∷ row 7 (4 ∷ 5 ∷ []) ∷ name 0 ∷ row 12 (3 ∷ 6 ∷ 7 ∷ []) ∷ [])) ≡ (0 ∷ [], result (collection set (of (n 1 ∷ [])))) ∷ (1 ∷ [], result (collection set (of (n 2 ∷ [])))) ∷ []
unfolding computing
union_matches = refl

-- let [a, b] = [1, 2] in a - b = -1: no choice
pub sequence_matches : walk (rows (P 0 ∷ P 1 ∷ row 39 (0 ∷ 1 ∷ []) ∷ whole 1 ∷ whole 2 ∷ row 8 (3 ∷ 4 ∷ []) ∷ name 0 ∷ name 1 ∷ operation 8 6 7 ∷ row 12 (2 ∷ 5 ∷ 8 ∷ []) ∷ [])) ≡ alone (result (below0 1))
unfolding computing
sequence_matches = refl

-- let a ^ b = [1, 2] in a: [], [1], [1, 2]
pub concatenation_matches : walk (rows (P 0 ∷ P 1 ∷ row 40 (0 ∷ 1 ∷ []) ∷ whole 1 ∷ whole 2 ∷ row 8 (3 ∷ 4 ∷ []) ∷ name 0 ∷ row 12 (2 ∷ 5 ∷ 6 ∷ []) ∷ [])) ≡ (0 ∷ [], result (collection sequence none)) ∷ (1 ∷ [], result (collection sequence (of (n 1 ∷ [])))) ∷ (2 ∷ [], result (collection sequence (of (n 1 ∷ n 2 ∷ [])))) ∷ []
unfolding computing
concatenation_matches = refl

-- let {a |-> a, b |-> c} = {1 |-> 1, 2 |-> k} in mk_(a, b, c)
abbrev repeated : ℕ → List ℕ
repeated k = rows (P 0 ∷ P 0 ∷ P 1 ∷ P 2 ∷ row 41 (0 ∷ 1 ∷ 2 ∷ 3 ∷ []) ∷ whole 1 ∷ whole 1 ∷ whole 2 ∷ whole k ∷ row 9 (5 ∷ 6 ∷ 7 ∷ 8 ∷ []) ∷ name 0 ∷ name 1 ∷ name 2 ∷ row 10 (10 ∷ 11 ∷ 12 ∷ []) ∷ row 12 (4 ∷ 9 ∷ 13 ∷ []) ∷ [])

-- 2 |-> 3: one binding, and still a choice. 2 |-> 2: either entry may be a's.
pub map_matches : walk (repeated 3) ≡ (0 ∷ [], result (collection tuple (of (n 1 ∷ n 2 ∷ n 3 ∷ [])))) ∷ []
unfolding computing
map_matches = refl

pub map_matches_twice : walk (repeated 2) ≡ (0 ∷ [], result (collection tuple (of (n 1 ∷ n 2 ∷ n 2 ∷ [])))) ∷ (1 ∷ [], result (collection tuple (of (n 2 ∷ n 1 ∷ n 1 ∷ [])))) ∷ []
unfolding computing
map_matches_twice = refl

-- let {|->} = {|->} in 5 = 5
pub empty_map_matches : walk (rows (row 41 [] ∷ row 9 [] ∷ whole 5 ∷ row 12 (0 ∷ 1 ∷ 2 ∷ []) ∷ [])) ≡ (0 ∷ [], result (n 5)) ∷ []
unfolding computing
empty_map_matches = refl

-- let {|->} = {1 |-> 2} in 5: 23
pub empty_map_unmatched : walk (rows (row 41 [] ∷ whole 1 ∷ whole 2 ∷ row 9 (1 ∷ 2 ∷ []) ∷ whole 5 ∷ row 12 (0 ∷ 3 ∷ 4 ∷ []) ∷ [])) ≡ alone (refuses 23 5 0)
unfolding computing
empty_map_unmatched = refl

-- forall {a |-> b} in set {{1 |-> 2}, {3 |-> 4}} & a < b = true
pub maps_quantified : walk (rows (P 0 ∷ P 1 ∷ row 41 (0 ∷ 1 ∷ []) ∷ whole 1 ∷ whole 2 ∷ row 9 (3 ∷ 4 ∷ []) ∷ whole 3 ∷ whole 4 ∷ row 9 (6 ∷ 7 ∷ []) ∷ row 7 (5 ∷ 8 ∷ []) ∷ name 0 ∷ name 1 ∷ operation 13 10 11 ∷ row 14 (2 ∷ 9 ∷ 12 ∷ []) ∷ [])) ≡ alone (result (boolean true))
unfolding computing
maps_quantified = refl

-- let a munion b = {1 |-> 2} in a: 23, neither half is empty
pub one_entry_unsplit : walk (rows (P 0 ∷ P 1 ∷ row 42 (0 ∷ 1 ∷ []) ∷ whole 1 ∷ whole 2 ∷ row 9 (3 ∷ 4 ∷ []) ∷ name 0 ∷ row 12 (2 ∷ 5 ∷ 6 ∷ []) ∷ [])) ≡ alone (refuses 23 7 0)
unfolding computing
one_entry_unsplit = refl

-- let mk_(a, a) in set {mk_(1, 2), mk_(3, 3)} be st true in a = 3
pub name_repeated : walk (rows (P 0 ∷ P 0 ∷ row 36 (0 ∷ 1 ∷ []) ∷ whole 1 ∷ whole 2 ∷ row 10 (3 ∷ 4 ∷ []) ∷ whole 3 ∷ whole 3 ∷ row 10 (6 ∷ 7 ∷ []) ∷ row 7 (5 ∷ 8 ∷ []) ∷ flag 1 ∷ name 0 ∷ row 13 (2 ∷ 9 ∷ 10 ∷ 11 ∷ []) ∷ [])) ≡ (0 ∷ [], result (n 3)) ∷ []
unfolding computing
name_repeated = refl

-- let [a] = {1} in a: 23, a value of another kind does not match
pub other_kind_unmatched : walk (rows (P 0 ∷ row 39 (0 ∷ []) ∷ whole 1 ∷ row 7 (2 ∷ []) ∷ name 0 ∷ row 12 (1 ∷ 3 ∷ 4 ∷ []) ∷ [])) ≡ alone (refuses 23 5 0)
unfolding computing
other_kind_unmatched = refl

-- let {a |-> b} = [1] in a: 23, and let a munion b = {1, 2} in a: 23
pub sequence_is_no_map : walk (rows (P 0 ∷ P 1 ∷ row 41 (0 ∷ 1 ∷ []) ∷ whole 1 ∷ row 8 (3 ∷ []) ∷ name 0 ∷ row 12 (2 ∷ 4 ∷ 5 ∷ []) ∷ [])) ≡ alone (refuses 23 6 0)
unfolding computing
sequence_is_no_map = refl

pub set_is_no_map : walk (rows (P 0 ∷ P 1 ∷ row 42 (0 ∷ 1 ∷ []) ∷ whole 1 ∷ whole 2 ∷ row 7 (3 ∷ 4 ∷ []) ∷ name 0 ∷ row 12 (2 ∷ 5 ∷ 6 ∷ []) ∷ [])) ≡ alone (refuses 23 7 0)
unfolding computing
set_is_no_map = refl

-- let {a} = {1, 2} in a: 23, the counts differ
pub other_count : walk (rows (P 0 ∷ row 37 (0 ∷ []) ∷ whole 1 ∷ whole 2 ∷ row 7 (2 ∷ 3 ∷ []) ∷ name 0 ∷ row 12 (1 ∷ 4 ∷ 5 ∷ []) ∷ [])) ≡ alone (refuses 23 6 0)
unfolding computing
other_count = refl

-- let {-, -} = {1, 2} in 0: two pairings, one binding
pub bindings_distinct : walk (rows (row 33 [] ∷ row 33 [] ∷ row 37 (0 ∷ 1 ∷ []) ∷ whole 1 ∷ whole 2 ∷ row 7 (3 ∷ 4 ∷ []) ∷ whole 0 ∷ row 12 (2 ∷ 5 ∷ 6 ∷ []) ∷ [])) ≡ (0 ∷ [], result (n 0)) ∷ []
unfolding computing
bindings_distinct = refl

-- let {(a union b) |-> c} = {{1,...,8} |-> 0} in c: 29, keys are looked into
pub wide_key : walk (rows (P 0 ∷ P 1 ∷ row 38 (0 ∷ 1 ∷ []) ∷ P 2 ∷ row 41 (2 ∷ 3 ∷ []) ∷ whole 1 ∷ whole 8 ∷ row 11 (5 ∷ 6 ∷ []) ∷ whole 0 ∷ row 9 (7 ∷ 8 ∷ []) ∷ name 2 ∷ row 12 (4 ∷ 9 ∷ 10 ∷ []) ∷ [])) ≡ alone (refuses 29 11 0)
unfolding computing
wide_key = refl

-- exists c in set {1} & let {a |-> b} (41) or a munion b (42) = {1 |-> 2, 3 |-> 4} in true: 8, a choice in a condition
abbrev tests : ℕ → List ℕ
tests kind = rows (P 2 ∷ whole 1 ∷ row 7 (1 ∷ []) ∷ P 0 ∷ P 1 ∷ row kind (3 ∷ 4 ∷ []) ∷ whole 1 ∷ whole 2 ∷ whole 3 ∷ whole 4 ∷ row 9 (6 ∷ 7 ∷ 8 ∷ 9 ∷ []) ∷ flag 1 ∷ row 12 (5 ∷ 10 ∷ 11 ∷ []) ∷ row 15 (0 ∷ 2 ∷ 12 ∷ []) ∷ [])

pub map_in_condition : checks scratch_bytes (tests 41) ≡ refuses 8 12 0
unfolding computing
map_in_condition = refl

pub munion_in_condition : checks scratch_bytes (tests 42) ≡ refuses 8 12 0
unfolding computing
munion_in_condition = refl
