-- One small table for each of the numbers 20 to 34, with its place. (29, and an undefined condition, stand in Samples.)
use Rattle.std.specs.Prelude.{◌≡◌, refl, List, [], ◌∷◌, ℕ, pos}
use Rattle.choices.specs.Tree.{refuses}
use Rattle.values.specs.Contract.{zeros}
use Rattle.integers.specs.Bytes.{integer_bytes}
use Rattle.samples.specs.Notation.{row, rows, flag, whole, quoted, name, operation, P, tested, answer_under, walk, alone, computing}

-- 1 + true: 20 at the operator
pub kind_of_operand : walk (rows (whole 1 ∷ flag 1 ∷ operation 7 0 1 ∷ [])) ≡ alone (refuses 20 2 0)
unfolding computing
kind_of_operand = refl

-- if 1 then 2 else 3: 20 at the if
pub kind_of_test : walk (rows (whole 1 ∷ whole 2 ∷ whole 3 ∷ row 6 (0 ∷ 1 ∷ 2 ∷ []) ∷ [])) ≡ alone (refuses 20 3 0)
unfolding computing
kind_of_test = refl

-- forall a in set {1, 2} & a: 20 at the binder
pub kind_of_condition : walk (rows (P 0 ∷ whole 1 ∷ whole 2 ∷ row 7 (1 ∷ 2 ∷ []) ∷ name 0 ∷ row 14 (0 ∷ 3 ∷ 4 ∷ []) ∷ [])) ≡ alone (refuses 20 5 0)
unfolding computing
kind_of_condition = refl

-- exists a in set 1 & true: 20 at the binder
pub kind_of_set : walk (rows (P 0 ∷ whole 1 ∷ flag 1 ∷ row 15 (0 ∷ 1 ∷ 2 ∷ []) ∷ [])) ≡ alone (refuses 20 3 0)
unfolding computing
kind_of_set = refl

-- [a | a in set {true} & true]: 20, kind 19 needs integers
pub kind_of_members : walk (rows (P 0 ∷ flag 1 ∷ row 7 (1 ∷ []) ∷ flag 1 ∷ name 0 ∷ row 19 (0 ∷ 2 ∷ 3 ∷ 4 ∷ []) ∷ [])) ≡ alone (refuses 20 5 0)
unfolding computing
kind_of_members = refl

-- Quotes have = and <> alone: <1> < <2>, <1> + 1, {<1>,...,<2>}, not <1>, if <1> then 1 else 2, [a | a in set {<1>} & true] and dunion {<1>} give 20.
pub quotes_not_ordered : walk (rows (quoted 1 ∷ quoted 2 ∷ operation 13 0 1 ∷ [])) ≡ alone (refuses 20 2 0)
unfolding computing
quotes_not_ordered = refl

pub quote_not_added : walk (rows (quoted 1 ∷ whole 1 ∷ operation 7 0 1 ∷ [])) ≡ alone (refuses 20 2 0)
unfolding computing
quote_not_added = refl

pub no_range_of_quotes : walk (rows (quoted 1 ∷ quoted 2 ∷ row 11 (0 ∷ 1 ∷ []) ∷ [])) ≡ alone (refuses 20 2 0)
unfolding computing
no_range_of_quotes = refl

pub quote_not_negated : walk (rows (quoted 1 ∷ row 4 (1 ∷ 0 ∷ []) ∷ [])) ≡ alone (refuses 20 1 0)
unfolding computing
quote_not_negated = refl

pub quote_no_test : walk (rows (quoted 1 ∷ whole 1 ∷ whole 2 ∷ row 6 (0 ∷ 1 ∷ 2 ∷ []) ∷ [])) ≡ alone (refuses 20 3 0)
unfolding computing
quote_no_test = refl

pub no_sequence_over_quotes : walk (rows (P 0 ∷ quoted 1 ∷ row 7 (1 ∷ []) ∷ flag 1 ∷ name 0 ∷ row 19 (0 ∷ 2 ∷ 3 ∷ 4 ∷ []) ∷ [])) ≡ alone (refuses 20 5 0)
unfolding computing
no_sequence_over_quotes = refl

pub quote_no_set : walk (rows (quoted 1 ∷ row 7 (0 ∷ []) ∷ row 4 (5 ∷ 1 ∷ []) ∷ [])) ≡ alone (refuses 20 2 0)
unfolding computing
quote_no_set = refl

-- 2,147,483,647 + 1: 21
pub out_of_range : walk (rows (whole 2147483647 ∷ whole 1 ∷ operation 7 0 1 ∷ [])) ≡ alone (refuses 21 2 0)
unfolding computing
out_of_range = refl

-- 1 mod 0: 22
pub by_zero : walk (rows (whole 1 ∷ whole 0 ∷ operation 12 0 1 ∷ [])) ≡ alone (refuses 22 2 0)
unfolding computing
by_zero = refl

-- let 1 = 2 in 3: 23
pub no_match : walk (rows (row 35 (integer_bytes (pos 1)) ∷ whole 2 ∷ whole 3 ∷ row 12 (0 ∷ 1 ∷ 2 ∷ []) ∷ [])) ≡ alone (refuses 23 3 0)
unfolding computing
no_match = refl

-- let a in set {1} be st a > 1 in a: 24
pub no_binding : walk (rows (P 0 ∷ whole 1 ∷ row 7 (1 ∷ []) ∷ name 0 ∷ whole 1 ∷ operation 15 3 4 ∷ name 0 ∷ row 13 (0 ∷ 2 ∷ 5 ∷ 6 ∷ []) ∷ [])) ≡ alone (refuses 24 7 0)
unfolding computing
no_binding = refl

-- iota a in set {1, 2} & a < 0: 25
pub iota_none : walk (tested 17 13 0) ≡ alone (refuses 25 7 0)
unfolding computing
iota_none = refl

-- iota a in set {1, 2} & a > 0: 25
pub iota_two : walk (tested 17 15 0) ≡ alone (refuses 25 7 0)
unfolding computing
iota_two = refl

-- hd []: 26
pub head_of_none : walk (rows (row 8 [] ∷ row 4 (8 ∷ 0 ∷ []) ∷ [])) ≡ alone (refuses 26 1 0)
unfolding computing
head_of_none = refl

-- [5](2): 26
pub index-absent : walk (rows (whole 5 ∷ row 8 (0 ∷ []) ∷ whole 2 ∷ row 21 (1 ∷ 2 ∷ []) ∷ [])) ≡ alone (refuses 26 3 0)
unfolding computing
index-absent = refl

-- {1 |-> a | a in set {1, 2} & true}: 27
pub two_values_comprehended : walk (rows (P 0 ∷ whole 1 ∷ whole 2 ∷ row 7 (1 ∷ 2 ∷ []) ∷ flag 1 ∷ whole 1 ∷ name 0 ∷ row 20 (0 ∷ 3 ∷ 4 ∷ 5 ∷ 6 ∷ []) ∷ [])) ≡ alone (refuses 27 7 0)
unfolding computing
two_values_comprehended = refl

-- mk_({1,...,63}, 1): 28
pub tuple_too_large : walk (rows (whole 1 ∷ whole 63 ∷ row 11 (0 ∷ 1 ∷ []) ∷ whole 1 ∷ row 10 (2 ∷ 3 ∷ []) ∷ [])) ≡ alone (refuses 28 4 0)
unfolding computing
tuple_too_large = refl

-- let a ^ (b ^ -) = [c | c in set {1,...,22} & true] in 0: 276 bindings, 30
pub too_many_bindings : walk (rows (P 0 ∷ P 1 ∷ row 33 [] ∷ row 40 (1 ∷ 2 ∷ []) ∷ row 40 (0 ∷ 3 ∷ []) ∷ P 2 ∷ whole 1 ∷ whole 22 ∷ row 11 (6 ∷ 7 ∷ []) ∷ flag 1 ∷ name 2 ∷ row 19 (5 ∷ 8 ∷ 9 ∷ 10 ∷ []) ∷ whole 0 ∷ row 12 (4 ∷ 11 ∷ 12 ∷ []) ∷ [])) ≡ alone (refuses 30 13 0)
unfolding computing
too_many_bindings = refl

-- ---- which comes first

-- [{1,...,40}, {1,...,40}, 1 div 0]: 22, all operands are evaluated before the first is added
pub operands_before_parts : walk (rows (whole 1 ∷ whole 40 ∷ row 11 (0 ∷ 1 ∷ []) ∷ whole 1 ∷ whole 40 ∷ row 11 (3 ∷ 4 ∷ []) ∷ whole 1 ∷ whole 0 ∷ operation 10 6 7 ∷ row 8 (2 ∷ 5 ∷ 8 ∷ []) ∷ [])) ≡ alone (refuses 22 8 0)
unfolding computing
operands_before_parts = refl

-- exists1 a in set {0, 1, 2} & 1 div (2 - a) >= 0: 22, all bindings are tested
pub exists1_tests_all : walk (rows (P 0 ∷ whole 0 ∷ whole 1 ∷ whole 2 ∷ row 7 (1 ∷ 2 ∷ 3 ∷ []) ∷ whole 1 ∷ whole 2 ∷ name 0 ∷ operation 8 6 7 ∷ operation 10 5 8 ∷ whole 0 ∷ operation 16 9 10 ∷ row 16 (0 ∷ 4 ∷ 11 ∷ []) ∷ [])) ≡ alone (refuses 22 9 0)
unfolding computing
exists1_tests_all = refl

-- iota a in set {0, 1, 2} & 1 div (2 - a) >= 0: 22, all bindings are tested
pub iota_tests_all : walk (rows (P 0 ∷ whole 0 ∷ whole 1 ∷ whole 2 ∷ row 7 (1 ∷ 2 ∷ 3 ∷ []) ∷ whole 1 ∷ whole 2 ∷ name 0 ∷ operation 8 6 7 ∷ operation 10 5 8 ∷ whole 0 ∷ operation 16 9 10 ∷ row 17 (0 ∷ 4 ∷ 11 ∷ []) ∷ [])) ≡ alone (refuses 22 9 0)
unfolding computing
iota_tests_all = refl

-- exists a union - in set {{1, 2}, {1,...,8}} & 1 div 0 = 1: 29, all bindings are formed before the first condition
pub formed_first : walk (rows (P 0 ∷ row 33 [] ∷ row 38 (0 ∷ 1 ∷ []) ∷ whole 1 ∷ whole 2 ∷ row 7 (3 ∷ 4 ∷ []) ∷ whole 1 ∷ whole 8 ∷ row 11 (6 ∷ 7 ∷ []) ∷ row 7 (5 ∷ 8 ∷ []) ∷ whole 1 ∷ whole 0 ∷ operation 10 10 11 ∷ whole 1 ∷ operation 5 12 13 ∷ row 15 (2 ∷ 9 ∷ 14 ∷ []) ∷ [])) ≡ alone (refuses 29 15 0)
unfolding computing
formed_first = refl

-- [{1,...,63} | a in set {1, 2, 3} & 1 div (3 - a) >= 0]: 28, an element is added before the next condition
pub added_before_next : walk (rows (P 0 ∷ whole 1 ∷ whole 2 ∷ whole 3 ∷ row 7 (1 ∷ 2 ∷ 3 ∷ []) ∷ whole 1 ∷ whole 3 ∷ name 0 ∷ operation 8 6 7 ∷ operation 10 5 8 ∷ whole 0 ∷ operation 16 9 10 ∷ whole 1 ∷ whole 63 ∷ row 11 (12 ∷ 13 ∷ []) ∷ row 19 (0 ∷ 4 ∷ 11 ∷ 14 ∷ []) ∷ [])) ≡ alone (refuses 28 15 0)
unfolding computing
added_before_next = refl

-- {1 |-> 2, 1 |-> 3, 1 div 0 |-> 4}: 22, all operands come before the building
pub operands_first : walk (rows (whole 1 ∷ whole 2 ∷ whole 1 ∷ whole 3 ∷ whole 1 ∷ whole 0 ∷ operation 10 4 5 ∷ whole 4 ∷ row 9 (0 ∷ 1 ∷ 2 ∷ 3 ∷ 6 ∷ 7 ∷ []) ∷ [])) ≡ alone (refuses 22 6 0)
unfolding computing
operands_first = refl

-- {1 |-> 2, 1 |-> 3, 4 |-> {1,...,63}}: 27, the first refusal of the building
pub first_part_refused : walk (rows (whole 1 ∷ whole 2 ∷ whole 1 ∷ whole 3 ∷ whole 4 ∷ whole 1 ∷ whole 63 ∷ row 11 (5 ∷ 6 ∷ []) ∷ row 9 (0 ∷ 1 ∷ 2 ∷ 3 ∷ 4 ∷ 7 ∷ []) ∷ [])) ≡ alone (refuses 27 8 0)
unfolding computing
first_part_refused = refl

-- ---- under lists, complete or not

-- let a in set {1, 2} be st true in 1 div 0
abbrev chosen : List ℕ
chosen = rows (P 0 ∷ whole 1 ∷ whole 2 ∷ row 7 (1 ∷ 2 ∷ []) ∷ flag 1 ∷ whole 1 ∷ whole 0 ∷ operation 10 5 6 ∷ row 13 (0 ∷ 3 ∷ 4 ∷ 7 ∷ []) ∷ [])

-- The list is used up: 32, with the number of bindings.
pub used_up : answer_under chosen [] ≡ refuses 32 8 2
unfolding computing
used_up = refl

-- An entry is not below the number of bindings: 33.
pub entry_beyond : answer_under chosen (2 ∷ []) ≡ refuses 33 8 2
unfolding computing
entry_beyond = refl

-- An entry is left over: 34 in place of 22, at its place; and in place of a value, at the last record.
pub left_over : answer_under chosen (1 ∷ 0 ∷ []) ≡ refuses 34 7 0
unfolding computing
left_over = refl

pub left_over_value : answer_under (rows (whole 5 ∷ flag 1 ∷ row 10 (0 ∷ 1 ∷ []) ∷ [])) (0 ∷ []) ≡ refuses 34 2 0
unfolding computing
left_over_value = refl

-- mk_([let b in set {1} be st true in b | a in set {1,...,63} & true], the same let, the same let): 65 choices of one binding each
abbrev many : List ℕ
many = rows (P 0 ∷ whole 1 ∷ whole 63 ∷ row 11 (1 ∷ 2 ∷ []) ∷ flag 1 ∷ P 1 ∷ whole 1 ∷ row 7 (6 ∷ []) ∷ flag 1 ∷ name 1 ∷ row 13 (5 ∷ 7 ∷ 8 ∷ 9 ∷ []) ∷ row 19 (0 ∷ 3 ∷ 4 ∷ 10 ∷ []) ∷ P 1 ∷ whole 1 ∷ row 7 (13 ∷ []) ∷ flag 1 ∷ name 1 ∷ row 13 (12 ∷ 14 ∷ 15 ∷ 16 ∷ []) ∷ P 1 ∷ whole 1 ∷ row 7 (19 ∷ []) ∷ flag 1 ∷ name 1 ∷ row 13 (18 ∷ 20 ∷ 21 ∷ 22 ∷ []) ∷ row 10 (11 ∷ 17 ∷ 23 ∷ []) ∷ [])

-- The 65th choice is 31, before 32; the list of 64 is complete.
pub choice_65 : walk many ≡ (zeros 64, refuses 31 23 0) ∷ []
unfolding computing
choice_65 = refl

pub choice_64 : answer_under many (zeros 63) ≡ refuses 32 17 1
unfolding computing
choice_64 = refl
