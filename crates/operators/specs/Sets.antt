-- The operators on sets: source 000, section 3.2.1, pages 14 and 15; the set range, page 62.
-- Each is stated on the members first, and then on values, with its kinds and its limit.
use Rattle.std.specs.Prelude.{Bool, true, false, not, ◌&&◌, cond, ℕ, ℤ, pos, negsuc, ◌+ℤ◌, ◌-ℤ◌}
use Rattle.values.specs.Value.{set, Value, integer, collection, Items, none, more, count}
use Rattle.values.specs.Items.{is_member}
use Rattle.operators.specs.Answer.{Answer, is, refused, wrong_kind, not_there, as_set, as_integer, needs, needs_both, sized}
use Rattle.operators.specs.Booleans.{truth}
use Rattle.operators.specs.Gather.{every_item, keep_items, insert_all, items_in, is_kind, flatten, up_from}

-- ---- on members

-- The members of both, the members of the first that are in the second, and those that are not.
abbrev pub unite : Items → Items → Items
unite vs ws = insert_all vs ws

abbrev pub intersect : Items → Items → Items
intersect vs ws = keep_items (λ v. is_member v ws) vs

abbrev pub subtract : Items → Items → Items
subtract vs ws = keep_items (λ v. not (is_member v ws)) vs

-- Every member of the first is in the second.
abbrev pub is_subset : Items → Items → Bool
is_subset vs ws = every_item (λ v. is_member v ws) vs

abbrev pub is_empty : Items → Bool
is_empty none = true
is_empty (more v vs) = false

-- The members of the sets vs: of all of them together, and those of the set v that are in each of the sets vs.
abbrev pub unite_all : Items → Items
unite_all vs = insert_all none (flatten vs)

abbrev pub intersect_all : Value → Items → Items
intersect_all v vs = keep_items (λ x. every_item (λ s. is_member x (items_in s)) vs) (items_in v)

-- ---- on values

-- e in set s, e not in set s (page 14)
abbrev pub membership : Value → Value → Answer
membership v w = needs (as_set w) (λ ws. truth (is_member v ws))

abbrev pub not_membership : Value → Value → Answer
not_membership v w = needs (as_set w) (λ ws. truth (not (is_member v ws)))

-- s1 union s2 (page 14): over 512 bytes, 28
abbrev pub union : Value → Value → Answer
union v w = needs_both (as_set v) (as_set w) (λ vs ws. sized set (unite vs ws))

-- s1 inter s2 (page 14)
abbrev pub intersection : Value → Value → Answer
intersection v w = needs_both (as_set v) (as_set w) (λ vs ws. is (collection set (intersect vs ws)))

-- s1 \ s2 (page 15)
abbrev pub difference : Value → Value → Answer
difference v w = needs_both (as_set v) (as_set w) (λ vs ws. is (collection set (subtract vs ws)))

-- s1 subset s2 (page 15)
abbrev pub subset : Value → Value → Answer
subset v w = needs_both (as_set v) (as_set w) (λ vs ws. truth (is_subset vs ws))

-- s1 psubset s2 (page 15): it is a subset and s2 \ s1 is non-empty
abbrev pub proper_subset : Value → Value → Answer
proper_subset v w = needs_both (as_set v) (as_set w) (λ vs ws. truth (is_subset vs ws && not (is_empty (subtract ws vs))))

-- card s (page 15)
abbrev pub cardinality : Value → Answer
cardinality v = needs (as_set v) (λ vs. is (integer (pos (count vs))))

-- dunion ss (page 15): a set of sets; over 512 bytes, 28
abbrev pub distributed_union : Value → Answer
distributed_union v = needs (as_set v) (λ vs. cond (every_item (is_kind set) vs) (sized set (unite_all vs)) (refused wrong_kind))

-- dinter ss (page 15): a set of sets, which must be non-empty
abbrev pub intersection_of : Items → Answer
intersection_of none = refused not_there
intersection_of (more v vs) = is (collection set (intersect_all v vs))

abbrev pub distributed_intersection : Value → Answer
distributed_intersection v = needs (as_set v) (λ vs. cond (every_item (is_kind set) vs) (intersection_of vs) (refused wrong_kind))

-- ---- {e1, ..., e2} (page 62): the set of integers from e1 to e2 inclusive, empty if e2 is smaller

-- A whole number as a count: none where it is negative.
abbrev pub as_count : ℤ → ℕ
as_count (pos n) = n
as_count (negsuc n) = 0

-- How many integers there are from one to another.
abbrev pub how_many : ℤ → ℤ → ℕ
how_many from to = as_count (to -ℤ from +ℤ pos 1)

-- The set of n integers, from one up; over 512 bytes, 28
abbrev pub consecutive : ℤ → ℕ → Answer
consecutive from n = sized set (up_from from n)

abbrev pub range_of : Value → Value → Answer
range_of v w = needs_both (as_integer v) (as_integer w) (λ from to. consecutive from (how_many from to))
