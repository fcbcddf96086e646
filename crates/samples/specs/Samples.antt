-- Document 01, "Sample sheets" and "The walk print": one table and one theorem over it for each. A theorem has every complete list of the
-- table, in dictionary order, and what evaluating under it answers: a value, or a refusal with its number, place and count.
use Rattle.std.specs.Prelude.{◌≡◌, refl, false, List, [], ◌∷◌, ◌++◌, ℕ, zero, suc, length}
use Rattle.choices.specs.Tree.{result, refuses}
use Rattle.values.specs.Value.{boolean, collection, set, map, none, more, size}
use Rattle.meaning.specs.Service.{scratch_bytes, checks}
use Rattle.samples.specs.Notation.{row, rows, flag, whole, whole_below0, name, operation, P, n, below0, integers_from, walk, computing}

-- ---- −7 div 2 is −3; −7 rem 2 is −1; −7 mod 2 is 1; 7 mod −2 is −1

abbrev div_negative : List ℕ
div_negative = rows (whole_below0 7 ∷ whole 2 ∷ operation 10 0 1 ∷ [])

pub div_negative_shows : walk div_negative ≡ ([], result (below0 3)) ∷ []
unfolding computing
div_negative_shows = refl

abbrev rem_negative : List ℕ
rem_negative = rows (whole_below0 7 ∷ whole 2 ∷ operation 11 0 1 ∷ [])

pub rem_negative_shows : walk rem_negative ≡ ([], result (below0 1)) ∷ []
unfolding computing
rem_negative_shows = refl

abbrev mod_negative : List ℕ
mod_negative = rows (whole_below0 7 ∷ whole 2 ∷ operation 12 0 1 ∷ [])

pub mod_negative_shows : walk mod_negative ≡ ([], result (n 1)) ∷ []
unfolding computing
mod_negative_shows = refl

abbrev mod_by_negative : List ℕ
mod_by_negative = rows (whole 7 ∷ whole_below0 2 ∷ operation 12 0 1 ∷ [])

pub mod_by_negative_shows : walk mod_by_negative ≡ ([], result (below0 1)) ∷ []
unfolding computing
mod_by_negative_shows = refl

-- ---- −2,147,483,648 div −1: 21; rem: 0

abbrev least_div : List ℕ
least_div = rows (whole_below0 2147483648 ∷ whole_below0 1 ∷ operation 10 0 1 ∷ [])

pub least_div_shows : walk least_div ≡ ([], refuses 21 2 0) ∷ []
unfolding computing
least_div_shows = refl

abbrev least_rem : List ℕ
least_rem = rows (whole_below0 2147483648 ∷ whole_below0 1 ∷ operation 11 0 1 ∷ [])

pub least_rem_shows : walk least_rem ≡ ([], result (n 0)) ∷ []
unfolding computing
least_rem_shows = refl

-- ---- {1,...,63} has 508 bytes; {1,...,64}: 28; {3,...,1} is {}

abbrev range_63 : List ℕ
range_63 = rows (whole 1 ∷ whole 63 ∷ row 11 (0 ∷ 1 ∷ []) ∷ [])

pub range_63_shows : walk range_63 ≡ ([], result (integers_from 1 63)) ∷ []
unfolding computing
range_63_shows = refl

pub range_63_size : size (integers_from 1 63) ≡ 508
unfolding computing
range_63_size = refl

abbrev range_64 : List ℕ
range_64 = rows (whole 1 ∷ whole 64 ∷ row 11 (0 ∷ 1 ∷ []) ∷ [])

pub range_64_shows : walk range_64 ≡ ([], refuses 28 2 0) ∷ []
unfolding computing
range_64_shows = refl

abbrev range_empty : List ℕ
range_empty = rows (whole 3 ∷ whole 1 ∷ row 11 (0 ∷ 1 ∷ []) ∷ [])

pub range_empty_shows : walk range_empty ≡ ([], result (collection set none)) ∷ []
unfolding computing
range_empty_shows = refl

-- ---- false and 1 div 0 = 1 is false; 1 div 0 = 1 and false: 22

abbrev and_settled : List ℕ
and_settled = rows (flag 0 ∷ whole 1 ∷ whole 0 ∷ operation 10 1 2 ∷ whole 1 ∷ operation 5 3 4 ∷ operation 1 0 5 ∷ [])

pub and_settled_shows : walk and_settled ≡ ([], result (boolean false)) ∷ []
unfolding computing
and_settled_shows = refl

abbrev and_by_zero : List ℕ
and_by_zero = rows (whole 1 ∷ whole 0 ∷ operation 10 0 1 ∷ whole 1 ∷ operation 5 2 3 ∷ flag 0 ∷ operation 1 4 5 ∷ [])

pub and_by_zero_shows : walk and_by_zero ≡ ([], refuses 22 2 0) ∷ []
unfolding computing
and_by_zero_shows = refl

-- ---- let {a,b} = {1,2} in a − b: −1, then 1 (a is name 0). Against {5}: 23.

abbrev pairing : List ℕ
pairing = rows (P 0 ∷ P 1 ∷ row 37 (0 ∷ 1 ∷ []) ∷ whole 1 ∷ whole 2 ∷ row 7 (3 ∷ 4 ∷ []) ∷ name 0 ∷ name 1 ∷ operation 8 6 7 ∷ row 12 (2 ∷ 5 ∷ 8 ∷ []) ∷ [])

pub pairing_shows : walk pairing ≡ (0 ∷ [], result (below0 1)) ∷ (1 ∷ [], result (n 1)) ∷ []
unfolding computing
pairing_shows = refl

abbrev unpaired : List ℕ
unpaired = rows (P 0 ∷ P 1 ∷ row 37 (0 ∷ 1 ∷ []) ∷ whole 5 ∷ row 7 (3 ∷ []) ∷ name 0 ∷ name 1 ∷ operation 8 5 6 ∷ row 12 (2 ∷ 4 ∷ 7 ∷ []) ∷ [])

pub unpaired_shows : walk unpaired ≡ ([], refuses 23 8 0) ∷ []
unfolding computing
unpaired_shows = refl

-- ---- let a union b = {1,2} in card a: 1, 1

abbrev splitting : List ℕ
splitting = rows (P 0 ∷ P 1 ∷ row 38 (0 ∷ 1 ∷ []) ∷ whole 1 ∷ whole 2 ∷ row 7 (3 ∷ 4 ∷ []) ∷ name 0 ∷ row 4 (4 ∷ 6 ∷ []) ∷ row 12 (2 ∷ 5 ∷ 7 ∷ []) ∷ [])

pub splitting_shows : walk splitting ≡ (0 ∷ [], result (n 1)) ∷ (1 ∷ [], result (n 1)) ∷ []
unfolding computing
splitting_shows = refl

-- ---- let-be over {} : 24. Condition 1 div a = 1 over {0,1}: 22.

abbrev let_be_none : List ℕ
let_be_none = rows (P 0 ∷ row 7 [] ∷ flag 1 ∷ name 0 ∷ row 13 (0 ∷ 1 ∷ 2 ∷ 3 ∷ []) ∷ [])

pub let_be_none_shows : walk let_be_none ≡ ([], refuses 24 4 0) ∷ []
unfolding computing
let_be_none_shows = refl

abbrev let_be_zero : List ℕ
let_be_zero =
    rows
    (P 0 ∷ whole 0 ∷ whole 1 ∷ row 7 (1 ∷ 2 ∷ []) ∷ whole 1 ∷ name 0 ∷ operation 10 4 5 ∷ whole 1 ∷ operation 5 6 7 ∷ name 0 ∷ row 13 (0 ∷ 3 ∷ 8 ∷ 9 ∷ []) ∷ [])

pub let_be_zero_shows : walk let_be_zero ≡ ([], refuses 22 6 0) ∷ []
unfolding computing
let_be_zero_shows = refl

-- ---- {1|->2,1|->2} has one entry; {1|->2,1|->3}: 27

abbrev one_entry : List ℕ
one_entry = rows (whole 1 ∷ whole 2 ∷ whole 1 ∷ whole 2 ∷ row 9 (0 ∷ 1 ∷ 2 ∷ 3 ∷ []) ∷ [])

pub one_entry_shows : walk one_entry ≡ ([], result (collection map (more (n 1) (more (n 2) none)))) ∷ []
unfolding computing
one_entry_shows = refl

abbrev two_values : List ℕ
two_values = rows (whole 1 ∷ whole 2 ∷ whole 1 ∷ whole 3 ∷ row 9 (0 ∷ 1 ∷ 2 ∷ 3 ∷ []) ∷ [])

pub two_values_shows : walk two_values ≡ ([], refuses 27 4 0) ∷ []
unfolding computing
two_values_shows = refl

-- ---- height 32 accepted, 33: 9

-- 5 under so many minus signs: the records after it.
abbrev signs : ℕ → ℕ → List ℕ
signs zero r = []
signs (suc k) r = row 4 (2 ∷ r ∷ []) ++ signs k (suc r)

abbrev signed : ℕ → List ℕ
signed k = whole 5 ++ signs k 0

pub height_32_shows : walk (signed 31) ≡ ([], result (below0 5)) ∷ []
unfolding computing
height_32_shows = refl

pub height_33_refused : checks scratch_bytes (signed 32) ≡ refuses 9 32 0
unfolding computing
height_33_refused = refl

-- ---- a set of 7 splits, of 8: 29

-- let a union - = {1,...,k} in 0: 126 ways for 7
abbrev split_of : ℕ → List ℕ
split_of k = rows (P 0 ∷ row 33 [] ∷ row 38 (0 ∷ 1 ∷ []) ∷ whole 1 ∷ whole k ∷ row 11 (3 ∷ 4 ∷ []) ∷ whole 0 ∷ row 12 (2 ∷ 5 ∷ 6 ∷ []) ∷ [])

pub split_of_7_shows : length (walk (split_of 7)) ≡ 126
unfolding computing
split_of_7_shows = refl

pub split_of_8_shows : walk (split_of 8) ≡ ([], refuses 29 7 0) ∷ []
unfolding computing
split_of_8_shows = refl

-- ---- a map of 7 splits, of 8: 29

-- let a munion - = {c|->c | c in set {1,...,k} & true} in card dom a: 126 ways for 7
abbrev map_split_of : ℕ → List ℕ
map_split_of k =
    rows
    (P 0 ∷ row 33 [] ∷ row 42 (0 ∷ 1 ∷ []) ∷ P 2 ∷ whole 1 ∷ whole k ∷ row 11 (4 ∷ 5 ∷ []) ∷ flag 1 ∷ name 2 ∷ name 2 ∷ row 20 (3 ∷ 6 ∷ 7 ∷ 8 ∷ 9 ∷ []) ∷ name 0
    ∷ row 4 (14 ∷ 11 ∷ []) ∷ row 4 (4 ∷ 12 ∷ []) ∷ row 12 (2 ∷ 10 ∷ 13 ∷ []) ∷ [])

pub map_split_of_7_shows : length (walk (map_split_of 7)) ≡ 126
unfolding computing
map_split_of_7_shows = refl

pub map_split_of_8_shows : walk (map_split_of 8) ≡ ([], refuses 29 14 0) ∷ []
unfolding computing
map_split_of_8_shows = refl

-- ---- the walk print: let a in set {1,...,3} be st a <> 2 in a + 1

abbrev pub worked : List ℕ
worked =
    rows
    (P 0 ∷ whole 1 ∷ whole 3 ∷ row 11 (1 ∷ 2 ∷ []) ∷ name 0 ∷ whole 2 ∷ operation 6 4 5 ∷ name 0 ∷ whole 1 ∷ operation 7 7 8
    ∷ (8 ∷ 0 ∷ 13 ∷ 0 ∷ 0 ∷ 3 ∷ 6 ∷ 9 ∷ []) ∷ [])

pub worked_accepted : checks scratch_bytes worked ≡ result 11
unfolding computing
worked_accepted = refl

pub worked_shows : walk worked ≡ (0 ∷ [], result (n 2)) ∷ (1 ∷ [], result (n 4)) ∷ []
unfolding computing
worked_shows = refl
