-- Whole prints, computed: document 01's worked print, and tables of `sheets` whose prints show each form of a line and of a value;
-- every pairing and every split of a map.
use Rattle.std.specs.Prelude.{◌≡◌, refl, List, [], ◌∷◌, ◌++◌, ℕ}
use Rattle.std.proofs.Common.{ap, arith}
use Rattle.values.specs.Value.{quote}
use Rattle.print.specs.Ascii.{ascii, hyphen}
use Rattle.print.specs.Text.{digits_to, decimal, text, refusal_word}
use Rattle.print.specs.Print.{print_of}
use Rattle.print.proofs.Decimals.{decimal_within}
use Rattle.samples.specs.Notation.{row, rows, flag, whole, whole_below0, quoted, name, operation, P, below0, computing}
use Rattle.samples.specs.Samples.{worked}

-- To unfold this is to unfold everything that a print computes with.
unfoldable printing : ℕ
unfolding computing digits_to decimal text refusal_word
printing = 0

-- Document 01, "The walk print".
pub worked_print : print_of worked ≡ ascii "table 11\n0 =2\n1 =4\nend 2\n"
unfolding printing
worked_print = refl

-- sheets/values.sheet: mk_({|->},{1|->{},true|->[false]},[],{mk_(-1,{2})})
pub values_print :
    print_of
    (rows
    (row 9 [] ∷ whole 1 ∷ row 7 [] ∷ flag 1 ∷ flag 0 ∷ row 8 (4 ∷ []) ∷ row 9 (1 ∷ 2 ∷ 3 ∷ 5 ∷ []) ∷ row 8 [] ∷ whole_below0 1 ∷ whole 2 ∷ row 7 (9 ∷ []) ∷ row 10 (8 ∷ 10 ∷ []) ∷ row 7 (11 ∷ []) ∷ row 10 (0 ∷ 6 ∷ 7 ∷ 12 ∷ []) ∷ []))
    ≡ ascii "table 14\n- =mk_({|->},{true|->[false],1|->{}},[],{mk_(-1,{2})})\nend 1\n"
unfolding printing
values_print = refl

-- sheets/quotes-in-order.sheet: {<2>,<1>,mk_(1,1),true,{}}
pub quotes_print :
    print_of (rows (quoted 2 ∷ quoted 1 ∷ whole 1 ∷ whole 1 ∷ row 10 (2 ∷ 3 ∷ []) ∷ flag 1 ∷ row 7 [] ∷ row 7 (0 ∷ 1 ∷ 4 ∷ 5 ∷ 6 ∷ []) ∷ []))
    ≡ ascii "table 8\n- ={true,{},mk_(1,1),<1>,<2>}\nend 1\n"
unfolding printing
quotes_print = refl

-- The greatest quote: five digits.
pub greatest_quote_text : text (quote 65535) ≡ ascii "<65535>"
unfolding text digits_to
greatest_quote_text = ap (λ (l : List ℕ). ascii "<" ++ l ++ ascii ">") (decimal_within 4 65535 (omega arith))

-- The least integer: ten digits after the sign.
pub least_text : text (below0 2147483648) ≡ ascii "-2147483648"
unfolding text digits_to
least_text = ap (λ (l : List ℕ). hyphen ∷ l) (decimal_within 9 2147483648 (omega arith))

-- sheets/refusals-by-list.sheet: let a in set {0,...,4} be st true in abs [5,true,-2147483648](a)
pub refusals_print :
    print_of
    (rows
    (P 0 ∷ whole 0 ∷ whole 4 ∷ row 11 (1 ∷ 2 ∷ []) ∷ flag 1 ∷ whole 5 ∷ flag 1 ∷ whole_below0 2147483648 ∷ row 8 (5 ∷ 6 ∷ 7 ∷ []) ∷ name 0 ∷ row 21 (8 ∷ 9 ∷ []) ∷ row 4 (3 ∷ 10 ∷ []) ∷ row 13 (0 ∷ 3 ∷ 4 ∷ 11 ∷ []) ∷ []))
    ≡ ascii "table 13\n0 !26 absent\n1 =5\n2 !20 kind\n3 !21 range\n4 !26 absent\nend 5\n"
unfolding printing
refusals_print = refl

-- sheets/separate-choices.sheet: [let b in set {a,a+10} be st true in b | a in set {1,2} & true]
pub separate_print :
    print_of
    (rows
    (P 0 ∷ whole 1 ∷ whole 2 ∷ row 7 (1 ∷ 2 ∷ []) ∷ flag 1 ∷ P 1 ∷ name 0 ∷ name 0 ∷ whole 10 ∷ operation 7 7 8 ∷ row 7 (6 ∷ 9 ∷ []) ∷ flag 1 ∷ name 1 ∷ row 13 (5 ∷ 10 ∷ 11 ∷ 12 ∷ []) ∷ row 19 (0 ∷ 3 ∷ 4 ∷ 13 ∷ []) ∷ []))
    ≡ ascii "table 15\n0,0 =[1,2]\n0,1 =[1,12]\n1,0 =[11,2]\n1,1 =[11,12]\nend 4\n"
unfolding printing
separate_print = refl

-- let {a|->b, c|->d} = {1|->2,3|->4} in mk_(a,b,c,d)
pub pairing_print :
    print_of
    (rows
    (P 0 ∷ P 1 ∷ P 2 ∷ P 3 ∷ row 41 (0 ∷ 1 ∷ 2 ∷ 3 ∷ []) ∷ whole 1 ∷ whole 2 ∷ whole 3 ∷ whole 4 ∷ row 9 (5 ∷ 6 ∷ 7 ∷ 8 ∷ []) ∷ name 0 ∷ name 1 ∷ name 2 ∷ name 3 ∷ row 10 (10 ∷ 11 ∷ 12 ∷ 13 ∷ []) ∷ row 12 (4 ∷ 9 ∷ 14 ∷ []) ∷ []))
    ≡ ascii "table 16\n0 =mk_(1,2,3,4)\n1 =mk_(3,4,1,2)\nend 2\n"
unfolding printing
pairing_print = refl

-- let a munion b = {1|->2,3|->4,5|->6} in mk_(a,b)
pub splitting_print :
    print_of
    (rows
    (P 0 ∷ P 1 ∷ row 42 (0 ∷ 1 ∷ []) ∷ whole 1 ∷ whole 2 ∷ whole 3 ∷ whole 4 ∷ whole 5 ∷ whole 6 ∷ row 9 (3 ∷ 4 ∷ 5 ∷ 6 ∷ 7 ∷ 8 ∷ []) ∷ name 0 ∷ name 1 ∷ row 10 (10 ∷ 11 ∷ []) ∷ row 12 (2 ∷ 9 ∷ 12 ∷ []) ∷ []))
    ≡ ascii "table 14\n0 =mk_({1|->2},{3|->4,5|->6})\n1 =mk_({1|->2,3|->4},{5|->6})\n2 =mk_({1|->2,5|->6},{3|->4})\n3 =mk_({3|->4},{1|->2,5|->6})\n4 =mk_({3|->4,5|->6},{1|->2})\n5 =mk_({5|->6},{1|->2,3|->4})\nend 6\n"
unfolding printing
splitting_print = refl

-- sheets/unbound-name.sheet: a + 1, with a bound nowhere
pub refused_print : print_of (rows (name 0 ∷ whole 1 ∷ operation 7 0 1 ∷ [])) ≡ ascii "refused 7 0\n"
unfolding printing
refused_print = refl

-- A map enumeration of one part.
pub odd_print : print_of (5 ∷ 0 ∷ 41 ∷ 0 ∷ 0 ∷ []) ≡ ascii "refused 4 0\n"
unfolding printing
odd_print = refl

-- The empty table.
pub empty_print : print_of [] ≡ ascii "refused 3 0\n"
unfolding printing
empty_print = refl
