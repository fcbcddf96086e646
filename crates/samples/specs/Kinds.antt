-- One small table for each expression kind: every complete list of it, in dictionary order, and what evaluating under it answers.
use Rattle.std.specs.Prelude.{◌≡◌, refl, true, false, [], ◌∷◌}
use Rattle.choices.specs.Tree.{result}
use Rattle.values.specs.Value.{boolean, quote, collection, set, sequence, map, tuple, none}
use Rattle.samples.specs.Notation.{row, rows, flag, whole, whole_below0, quoted, name, operation, P, tested, n, of, walk, alone, computing}

-- if 1 < 2 then 3 else 1 div 0 = 3
pub if_takes_then : walk (rows (whole 1 ∷ whole 2 ∷ operation 13 0 1 ∷ whole 3 ∷ whole 1 ∷ whole 0 ∷ operation 10 4 5 ∷ row 6 (2 ∷ 3 ∷ 6 ∷ []) ∷ [])) ≡ alone (result (n 3))
unfolding computing
if_takes_then = refl

-- if 2 < 1 then 1 div 0 else 4 = 4
pub if_takes_else : walk (rows (whole 2 ∷ whole 1 ∷ operation 13 0 1 ∷ whole 1 ∷ whole 0 ∷ operation 10 3 4 ∷ whole 4 ∷ row 6 (2 ∷ 5 ∷ 6 ∷ []) ∷ [])) ≡ alone (result (n 4))
unfolding computing
if_takes_else = refl

-- {2, 1, 2} = {1, 2}
pub set_written : walk (rows (whole 2 ∷ whole 1 ∷ whole 2 ∷ row 7 (0 ∷ 1 ∷ 2 ∷ []) ∷ [])) ≡ alone (result (collection set (of (n 1 ∷ n 2 ∷ []))))
unfolding computing
set_written = refl

-- [2, 1, 2]
pub sequence_written : walk (rows (whole 2 ∷ whole 1 ∷ whole 2 ∷ row 8 (0 ∷ 1 ∷ 2 ∷ []) ∷ [])) ≡ alone (result (collection sequence (of (n 2 ∷ n 1 ∷ n 2 ∷ []))))
unfolding computing
sequence_written = refl

-- {2 |-> 1, 1 |-> 3} = {1 |-> 3, 2 |-> 1}
pub map_written : walk (rows (whole 2 ∷ whole 1 ∷ whole 1 ∷ whole 3 ∷ row 9 (0 ∷ 1 ∷ 2 ∷ 3 ∷ []) ∷ [])) ≡ alone (result (collection map (of (n 1 ∷ n 3 ∷ n 2 ∷ n 1 ∷ []))))
unfolding computing
map_written = refl

-- mk_(2, true, 1)
pub tuple_written : walk (rows (whole 2 ∷ flag 1 ∷ whole 1 ∷ row 10 (0 ∷ 1 ∷ 2 ∷ []) ∷ [])) ≡ alone (result (collection tuple (of (n 2 ∷ boolean true ∷ n 1 ∷ []))))
unfolding computing
tuple_written = refl

-- let a = 5 in a - 1 = 4: no choice
pub let_plain : walk (rows (P 0 ∷ whole 5 ∷ name 0 ∷ whole 1 ∷ operation 8 2 3 ∷ row 12 (0 ∷ 1 ∷ 4 ∷ []) ∷ [])) ≡ alone (result (n 4))
unfolding computing
let_plain = refl

-- forall a in set {1, 2} & a > 0 = true
pub forall_all : walk (tested 14 15 0) ≡ alone (result (boolean true))
unfolding computing
forall_all = refl

-- forall a in set {1, 2} & a = 2 = false
pub forall_one : walk (tested 14 5 2) ≡ alone (result (boolean false))
unfolding computing
forall_one = refl

-- exists a in set {1, 2} & a = 2 = true
pub exists_one : walk (tested 15 5 2) ≡ alone (result (boolean true))
unfolding computing
exists_one = refl

-- exists a in set {1, 2} & a < 0 = false
pub exists_none : walk (tested 15 13 0) ≡ alone (result (boolean false))
unfolding computing
exists_none = refl

-- forall a in set {0, 1} & 1 div (1 - a) = 2 = false: it stops at the first false
pub forall_stops : walk (rows (P 0 ∷ whole 0 ∷ whole 1 ∷ row 7 (1 ∷ 2 ∷ []) ∷ whole 1 ∷ whole 1 ∷ name 0 ∷ operation 8 5 6 ∷ operation 10 4 7 ∷ whole 2 ∷ operation 5 8 9 ∷ row 14 (0 ∷ 3 ∷ 10 ∷ []) ∷ [])) ≡ alone (result (boolean false))
unfolding computing
forall_stops = refl

-- exists a in set {0, 1} & 1 div (1 - a) = 1 = true: it stops at the first true
pub exists_stops : walk (rows (P 0 ∷ whole 0 ∷ whole 1 ∷ row 7 (1 ∷ 2 ∷ []) ∷ whole 1 ∷ whole 1 ∷ name 0 ∷ operation 8 5 6 ∷ operation 10 4 7 ∷ whole 1 ∷ operation 5 8 9 ∷ row 15 (0 ∷ 3 ∷ 10 ∷ []) ∷ [])) ≡ alone (result (boolean true))
unfolding computing
exists_stops = refl

-- exists1 a in set {1, 2} & a = 2 = true
pub exists1_one : walk (tested 16 5 2) ≡ alone (result (boolean true))
unfolding computing
exists1_one = refl

-- exists1 a in set {1, 2} & a > 0 = false
pub exists1_two : walk (tested 16 15 0) ≡ alone (result (boolean false))
unfolding computing
exists1_two = refl

-- iota a in set {1, 2} & a = 2 = 2
pub iota_one : walk (tested 17 5 2) ≡ alone (result (n 2))
unfolding computing
iota_one = refl

-- {a × a | a in set {-1, 1, 2} & a <> 2} = {1}
pub set_comprehended : walk (rows (P 0 ∷ whole_below0 1 ∷ whole 1 ∷ whole 2 ∷ row 7 (1 ∷ 2 ∷ 3 ∷ []) ∷ name 0 ∷ whole 2 ∷ operation 6 5 6 ∷ name 0 ∷ name 0 ∷ operation 9 8 9 ∷ row 18 (0 ∷ 4 ∷ 7 ∷ 10 ∷ []) ∷ [])) ≡ alone (result (collection set (of (n 1 ∷ []))))
unfolding computing
set_comprehended = refl

-- [4 - a | a in set {1, 2, 3} & a <> 2] = [3, 1]
pub sequence_comprehended : walk (rows (P 0 ∷ whole 1 ∷ whole 2 ∷ whole 3 ∷ row 7 (1 ∷ 2 ∷ 3 ∷ []) ∷ name 0 ∷ whole 2 ∷ operation 6 5 6 ∷ whole 4 ∷ name 0 ∷ operation 8 8 9 ∷ row 19 (0 ∷ 4 ∷ 7 ∷ 10 ∷ []) ∷ [])) ≡ alone (result (collection sequence (of (n 3 ∷ n 1 ∷ []))))
unfolding computing
sequence_comprehended = refl

-- {4 - a |-> a | a in set {1, 2, 3} & a <> 2} = {1 |-> 3, 3 |-> 1}
pub map_comprehended : walk (rows (P 0 ∷ whole 1 ∷ whole 2 ∷ whole 3 ∷ row 7 (1 ∷ 2 ∷ 3 ∷ []) ∷ name 0 ∷ whole 2 ∷ operation 6 5 6 ∷ whole 4 ∷ name 0 ∷ operation 8 8 9 ∷ name 0 ∷ row 20 (0 ∷ 4 ∷ 7 ∷ 10 ∷ 11 ∷ []) ∷ [])) ≡ alone (result (collection map (of (n 1 ∷ n 3 ∷ n 3 ∷ n 1 ∷ []))))
unfolding computing
map_comprehended = refl

-- [5, 6](2) = 6
pub sequence_applied : walk (rows (whole 5 ∷ whole 6 ∷ row 8 (0 ∷ 1 ∷ []) ∷ whole 2 ∷ row 21 (2 ∷ 3 ∷ []) ∷ [])) ≡ alone (result (n 6))
unfolding computing
sequence_applied = refl

-- {1 |-> 7}(1) = 7
pub map_applied : walk (rows (whole 1 ∷ whole 7 ∷ row 9 (0 ∷ 1 ∷ []) ∷ whole 1 ∷ row 21 (2 ∷ 3 ∷ []) ∷ [])) ≡ alone (result (n 7))
unfolding computing
map_applied = refl

-- <258>: the lowest byte first
pub quote_given : walk (rows (row 22 (2 ∷ 1 ∷ []) ∷ [])) ≡ alone (result (quote 258))
unfolding computing
quote_given = refl

-- <1> = <1> = true, and <1> = 1 = false: a quote is no integer
pub quotes_equal : walk (rows (quoted 1 ∷ quoted 1 ∷ operation 5 0 1 ∷ [])) ≡ alone (result (boolean true))
unfolding computing
quotes_equal = refl

pub quote_no_integer : walk (rows (quoted 1 ∷ whole 1 ∷ operation 5 0 1 ∷ [])) ≡ alone (result (boolean false))
unfolding computing
quote_no_integer = refl

-- <1> in set {1, <1>} = true, and card {<1>, 1, <1>} = 2
pub quote_in_set : walk (rows (quoted 1 ∷ whole 1 ∷ quoted 1 ∷ row 7 (1 ∷ 2 ∷ []) ∷ operation 17 0 3 ∷ [])) ≡ alone (result (boolean true))
unfolding computing
quote_in_set = refl

pub quotes_counted : walk (rows (quoted 1 ∷ whole 1 ∷ quoted 1 ∷ row 7 (0 ∷ 1 ∷ 2 ∷ []) ∷ row 4 (4 ∷ 3 ∷ []) ∷ [])) ≡ alone (result (n 2))
unfolding computing
quotes_counted = refl

-- let a in set {<1>, mk_(1, 2), {}} be st true in a: {}, mk_(1, 2), <1>
pub quotes_last : walk (rows (P 0 ∷ quoted 1 ∷ whole 1 ∷ whole 2 ∷ row 10 (2 ∷ 3 ∷ []) ∷ row 7 [] ∷ row 7 (1 ∷ 4 ∷ 5 ∷ []) ∷ flag 1 ∷ name 0 ∷ row 13 (0 ∷ 6 ∷ 7 ∷ 8 ∷ []) ∷ [])) ≡ (0 ∷ [], result (collection set none)) ∷ (1 ∷ [], result (collection tuple (of (n 1 ∷ n 2 ∷ [])))) ∷ (2 ∷ [], result (quote 1)) ∷ []
unfolding computing
quotes_last = refl

-- let a in set {1, 2} be st true in a: 1, then 2
pub let_be_all : walk (rows (P 0 ∷ whole 1 ∷ whole 2 ∷ row 7 (1 ∷ 2 ∷ []) ∷ flag 1 ∷ name 0 ∷ row 13 (0 ∷ 3 ∷ 4 ∷ 5 ∷ []) ∷ [])) ≡ (0 ∷ [], result (n 1)) ∷ (1 ∷ [], result (n 2)) ∷ []
unfolding computing
let_be_all = refl

-- [let b in set {1, 2} be st true in b | a in set {1, 2} & true]: each evaluation of the let-be chooses apart
pub choices_apart : walk (rows (P 0 ∷ whole 1 ∷ whole 2 ∷ row 7 (1 ∷ 2 ∷ []) ∷ flag 1 ∷ P 1 ∷ whole 1 ∷ whole 2 ∷ row 7 (6 ∷ 7 ∷ []) ∷ flag 1 ∷ name 1 ∷ row 13 (5 ∷ 8 ∷ 9 ∷ 10 ∷ []) ∷ row 19 (0 ∷ 3 ∷ 4 ∷ 11 ∷ []) ∷ [])) ≡ (0 ∷ 0 ∷ [], result (collection sequence (of (n 1 ∷ n 1 ∷ [])))) ∷ (0 ∷ 1 ∷ [], result (collection sequence (of (n 1 ∷ n 2 ∷ [])))) ∷ (1 ∷ 0 ∷ [], result (collection sequence (of (n 2 ∷ n 1 ∷ [])))) ∷ (1 ∷ 1 ∷ [], result (collection sequence (of (n 2 ∷ n 2 ∷ [])))) ∷ []
unfolding computing
choices_apart = refl
