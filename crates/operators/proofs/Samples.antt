-- Worked examples of source 000 that lie in the subset, and the sample sheets on operators, by computation.
use mathlib.Core.Path.{◌≡◌, refl}
use mathlib.Core.Bool.{true, false}
use Prim.Native.Nat.{ℕ, zero, suc}
use lib.IntN.{pos, neg_ℤ}
use Rattle.integers.specs.Whole.{ranged, least_integer}
use Rattle.values.specs.Value.{Value, boolean, integer, collection, set, sequence, map, tuple, Items, none, more, count, every_other, size, within}
use Rattle.integers.specs.Order.{order_ℕ, order_ℤ}
use Rattle.values.specs.Items.{join, is_member, nth, insert, lookup, enter}
use Rattle.operators.specs.Answer.{is, refused}
use Rattle.operators.specs.Booleans.{Connective, settles, left, truth}
use Rattle.operators.specs.Gather.{every_item, keep_items, insert_all, flatten, backwards, up_from, every_entry, keep_entries, enter_all}
use Rattle.operators.specs.Sets.{range_of}
use Rattle.operators.specs.Maps.{apply_to}
use Rattle.operators.specs.Enumerations.{add_members, add_items, add_entries, set_of, map_of, tuple_of}
use Rattle.operators.specs.Operators.{unary, binary}

-- ---- values in short

abbrev n : ℕ → Value
n k = integer (pos k)

abbrev minus : ℕ → Value
minus k = integer (neg_ℤ (pos k))

infixr 40 ◌▹◌
abbrev ◌▹◌ : Value → Items → Items
v ▹ vs = more v vs

abbrev s : Items → Value
s vs = collection set vs

abbrev q : Items → Value
q vs = collection sequence vs

abbrev m : Items → Value
m vs = collection map vs

-- s2 of page 15, l1 and l2 of page 18, m2 of page 20
abbrev s2 : Value
s2 = s (n 2 ▹ n 4 ▹ n 6 ▹ n 8 ▹ n 11 ▹ none)

abbrev l1 : Value
l1 = q (n 3 ▹ n 1 ▹ n 4 ▹ n 1 ▹ n 5 ▹ n 9 ▹ n 2 ▹ none)

abbrev l2 : Value
l2 = q (n 2 ▹ n 7 ▹ n 1 ▹ n 8 ▹ none)

abbrev m2 : Value
m2 = m (n 1 ▹ n 2 ▹ n 2 ▹ n 3 ▹ n 3 ▹ n 4 ▹ n 4 ▹ n 1 ▹ none)

-- ---- page 10: −7 mod 2 is 1, and div by 0

minus_7_mod_2 : binary 12 (minus 7) (n 2) ≡ is (n 1)
unfolding binary ranged
minus_7_mod_2 = refl

least_div_minus_1 : binary 10 (integer least_integer) (minus 1) ≡ refused 21
unfolding binary ranged
least_div_minus_1 = refl

one_div_0 : binary 10 (n 1) (n 0) ≡ refused 22
unfolding binary ranged
one_div_0 = refl

sum_of_a_truth : binary 7 (n 1) (boolean true) ≡ refused 20
unfolding binary
sum_of_a_truth = refl

-- ---- page 7: false settles and

false-and : left Connective.and (boolean false) ≡ settles (truth false)
false-and = refl

-- ---- page 15

ten_not_in : binary 18 (n 10) s2 ≡ is (boolean true)
unfolding binary is_member within order_ℕ order_ℤ
ten_not_in = refl

union_2_4 : binary 19 s2 (s (n 2 ▹ n 4 ▹ none)) ≡ is s2
unfolding binary insert_all insert size within order_ℕ order_ℤ
union_2_4 = refl

union_1_2_3 : binary 19 (s (n 1 ▹ n 2 ▹ none)) (s (n 2 ▹ n 3 ▹ none)) ≡ is (s (n 1 ▹ n 2 ▹ n 3 ▹ none))
unfolding binary insert_all insert size within order_ℕ order_ℤ
union_1_2_3 = refl

-- 63 integers and one more
union_64 : binary 19 (s (up_from (pos 1) 63)) (s (n 0 ▹ none)) ≡ refused 28
unfolding binary insert_all insert size up_from within order_ℕ order_ℤ
union_64 = refl

difference_10 : binary 21 s2 (s (n 2 ▹ n 4 ▹ n 8 ▹ n 10 ▹ none)) ≡ is (s (n 6 ▹ n 11 ▹ none))
unfolding binary keep_items is_member within order_ℕ order_ℤ
difference_10 = refl

psubset_itself : binary 23 s2 s2 ≡ is (boolean false)
unfolding binary keep_items every_item is_member within order_ℕ order_ℤ
psubset_itself = refl

card_5 : unary 4 s2 ≡ is (n 5)
unfolding unary count
card_5 = refl

dunion_15 : unary 5 (s (s (n 0 ▹ n 12 ▹ none) ▹ s2 ▹ s (n 2 ▹ n 4 ▹ none) ▹ s (n 4 ▹ n 5 ▹ n 6 ▹ none) ▹ none))
    ≡ is (s (n 0 ▹ n 2 ▹ n 4 ▹ n 5 ▹ n 6 ▹ n 8 ▹ n 11 ▹ n 12 ▹ none))
unfolding unary every_item flatten join insert_all insert size within order_ℕ order_ℤ
dunion_15 = refl

dinter_4 : unary 6 (s (s2 ▹ s (n 2 ▹ n 4 ▹ none) ▹ s (n 4 ▹ n 5 ▹ n 6 ▹ none) ▹ none)) ≡ is (s (n 4 ▹ none))
unfolding unary every_item keep_items is_member within order_ℕ order_ℤ
dinter_4 = refl

dinter_of_none : unary 6 (s none) ≡ refused 26
unfolding unary every_item
dinter_of_none = refl

-- ---- page 18

tail_18 : unary 9 l2 ≡ is (q (n 7 ▹ n 1 ▹ n 8 ▹ none))
unfolding unary
tail_18 = refl

head_of_none : unary 8 (q none) ≡ refused 26
unfolding unary
head_of_none = refl

reverse_l1 : unary 13 l1 ≡ is (q (n 2 ▹ n 9 ▹ n 5 ▹ n 1 ▹ n 4 ▹ n 1 ▹ n 3 ▹ none))
unfolding unary backwards join
reverse_l1 = refl

conc_l1_l2 : unary 12 (q (l1 ▹ l2 ▹ none)) ≡ binary 24 l1 l2
unfolding unary binary every_item flatten join size
conc_l1_l2 = refl

elems_l1 : unary 10 l1 ≡ is (s (n 1 ▹ n 2 ▹ n 3 ▹ n 4 ▹ n 5 ▹ n 9 ▹ none))
unfolding unary insert_all insert within order_ℕ order_ℤ
elems_l1 = refl

inds_l2 : unary 11 l2 ≡ is (s (n 1 ▹ n 2 ▹ n 3 ▹ n 4 ▹ none))
unfolding unary up_from count size
inds_l2 = refl

-- 64 empty sequences take 260 bytes, and their indexes more than 512
many : ℕ → Value → Items
many zero v = none
many (suc k) v = v ▹ many k v

size_260 : size (q (many 64 (q none))) ≡ 260
unfolding many size
size_260 = refl

inds_64 : unary 11 (q (many 64 (q none))) ≡ refused 28
unfolding unary many count up_from size
inds_64 = refl

-- ---- pages 20 and 21

dom_m2 : unary 14 m2 ≡ is (s (n 1 ▹ n 2 ▹ n 3 ▹ n 4 ▹ none))
unfolding unary every_other
dom_m2 = refl

rng_m2 : unary 15 m2 ≡ is (s (n 1 ▹ n 2 ▹ n 3 ▹ n 4 ▹ none))
unfolding unary every_other insert_all insert within order_ℕ order_ℤ
rng_m2 = refl

clash_27 : binary 25 m2 (m (n 1 ▹ n 3 ▹ none)) ≡ refused 27
unfolding binary every_entry lookup within order_ℕ order_ℤ
clash_27 = refl

override_1 : binary 26 m2 (m (n 1 ▹ n 3 ▹ n 5 ▹ n 5 ▹ none)) ≡ is (m (n 1 ▹ n 3 ▹ n 2 ▹ n 3 ▹ n 3 ▹ n 4 ▹ n 4 ▹ n 1 ▹ n 5 ▹ n 5 ▹ none))
unfolding binary enter_all enter size within order_ℕ order_ℤ
override_1 = refl

domain_restrict : binary 27 (s (n 1 ▹ n 4 ▹ n 7 ▹ none)) m2 ≡ is (m (n 1 ▹ n 2 ▹ n 4 ▹ n 1 ▹ none))
unfolding binary keep_entries is_member within order_ℕ order_ℤ
domain_restrict = refl

range-restrict : binary 28 m2 (s (n 1 ▹ n 2 ▹ none)) ≡ is (m (n 1 ▹ n 2 ▹ n 4 ▹ n 1 ▹ none))
unfolding binary keep_entries is_member within order_ℕ order_ℤ
range-restrict = refl

-- ---- page 68, and 26 for an absent index or key

apply_l1 : apply_to l1 (n 3) ≡ is (n 4)
unfolding nth
apply_l1 = refl

apply_beyond : apply_to l1 (n 8) ≡ refused 26
unfolding nth
apply_beyond = refl

apply_m2 : apply_to m2 (n 4) ≡ is (n 1)
unfolding lookup within order_ℕ order_ℤ
apply_m2 = refl

-- ---- page 62, and the limit: {1,...,63} has 508 bytes, {1,...,64} gives 28, {3,...,1} is {}

range_1_5 : range_of (n 1) (n 5) ≡ is (s (n 1 ▹ n 2 ▹ n 3 ▹ n 4 ▹ n 5 ▹ none))
unfolding up_from size
range_1_5 = refl

range_3_1 : range_of (n 3) (n 1) ≡ is (s none)
unfolding up_from size
range_3_1 = refl

range_63 : range_of (n 1) (n 63) ≡ is (s (up_from (pos 1) 63))
unfolding up_from size
range_63 = refl

size_508 : size (s (up_from (pos 1) 63)) ≡ 508
unfolding up_from size
size_508 = refl

range_64 : range_of (n 1) (n 64) ≡ refused 28
unfolding up_from size
range_64 = refl

-- ---- enumerations: {1|->2,1|->2} has one entry; {1|->2,1|->3}: 27

set_2_1_2 : set_of (n 2 ▹ n 1 ▹ n 2 ▹ none) ≡ is (s (n 1 ▹ n 2 ▹ none))
unfolding add_members insert size within order_ℕ order_ℤ
set_2_1_2 = refl

one_entry : map_of (n 1 ▹ n 2 ▹ n 1 ▹ n 2 ▹ none) ≡ is (m (n 1 ▹ n 2 ▹ none))
unfolding add_entries lookup enter size within order_ℕ order_ℤ
one_entry = refl

two_values : map_of (n 1 ▹ n 2 ▹ n 1 ▹ n 3 ▹ none) ≡ refused 27
unfolding add_entries lookup enter size within order_ℕ order_ℤ
two_values = refl

pair_1_2 : tuple_of (n 1 ▹ n 2 ▹ none) ≡ is (collection tuple (n 1 ▹ n 2 ▹ none))
unfolding add_items join size
pair_1_2 = refl
