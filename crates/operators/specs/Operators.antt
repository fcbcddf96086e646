-- Document 01, "Table records": the operators by number.
use Rattle.std.specs.Prelude.{List, [], ◌∷◌, ℕ, get_or}
use Rattle.values.specs.Value.{Value}
use Rattle.operators.specs.Answer.{Answer, refused, wrong_kind}
use Rattle.operators.specs.Booleans.{negation, biimplication, equality, inequality}
use Rattle.operators.specs.Arithmetic.{unary_minus, absolute_value, sum, minus, product, integer_division, remainder, modulus, less_than, less_or_equal, greater_than, greater_or_equal}
use Rattle.operators.specs.Sets.{membership, not_membership, union, intersection, difference, subset, proper_subset, cardinality, distributed_union, distributed_intersection}
use Rattle.operators.specs.Sequences.{head, tail, len, elements, indexes, reverse, concatenation, distributed_concatenation}
use Rattle.operators.specs.Maps.{domain, range, map_union, override, domain_restriction, range_restriction}

-- Where no operator has the number. (An accepted table names none such, by rule 4.)
abbrev pub no_unary : Value → Answer
no_unary v = refused wrong_kind

abbrev pub no_binary : Value → Value → Answer
no_binary v w = refused wrong_kind

-- 1 not, 2 minus, 3 abs, 4 card, 5 dunion, 6 dinter, 7 len, 8 hd, 9 tl, 10 elems, 11 inds, 12 conc, 13 reverse, 14 dom, 15 rng.
abbrev pub unaries : List (Value → Answer)
unaries =
    no_unary
    ∷ negation ∷ unary_minus ∷ absolute_value ∷ cardinality ∷ distributed_union
    ∷ distributed_intersection ∷ len ∷ head ∷ tail ∷ elements
    ∷ indexes ∷ distributed_concatenation ∷ reverse ∷ domain ∷ range ∷ []

unfoldable pub unary : ℕ → Value → Answer
unary n v = get_or unaries n no_unary v

-- 4 <=>, 5 =, 6 <>, 7 +, 8 −, 9 ×, 10 div, 11 rem, 12 mod, 13 <, 14 <=, 15 >, 16 >=, 17 in set, 18 not in set, 19 union, 20 inter,
-- 21 difference, 22 subset, 23 psubset, 24 ^, 25 munion, 26 ++, 27 <: and 28 :>.
-- (1 and, 2 or and 3 => may not evaluate their right: see `left` and `right` in Booleans.)
abbrev pub binaries : List (Value → Value → Answer)
binaries =
    no_binary ∷ no_binary ∷ no_binary ∷ no_binary
    ∷ biimplication ∷ equality ∷ inequality
    ∷ sum ∷ minus ∷ product ∷ integer_division ∷ remainder ∷ modulus
    ∷ less_than ∷ less_or_equal ∷ greater_than ∷ greater_or_equal
    ∷ membership ∷ not_membership ∷ union ∷ intersection ∷ difference ∷ subset ∷ proper_subset
    ∷ concatenation ∷ map_union ∷ override ∷ domain_restriction ∷ range_restriction ∷ []

unfoldable pub binary : ℕ → Value → Value → Answer
binary n v w = get_or binaries n no_binary v w
