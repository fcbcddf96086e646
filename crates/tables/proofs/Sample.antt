-- The check computed on tables: document 01's example, and for each rule a table that it refuses.
use mathlib.Core.Path.{◌≡◌, refl}
use mathlib.Core.List.{List, [], ◌∷◌, ◌++◌}
use Prim.Native.Nat.{ℕ, zero, suc, ◌+◌}
use lib.ListN.{length, replicate}
use Rattle.std.specs.Prelude.{Ok}
use Rattle.tables.specs.declared.Rule.TheVariants.{WrongSize, UnfitRecord, TooManyRecords, WrongNaming, WrongBinding, ChoiceInCondition, TooHigh}
use Rattle.tables.specs.Faults.{faulty}
use Rattle.tables.specs.Record.{shape, operands, is_fit}
use Rattle.tables.specs.Table.{next, cut_by, cut}
use Rattle.tables.specs.Sheet.{fold_by, holds_name, loose, height, climb_by, is_bound, in_condition}
use Rattle.tables.specs.Check.{fault6, fault7, chooses, fault8, fault9, judged, judged_cut, check}

-- The bytes of a record, from its kind and fields.
abbrev row : ℕ → List ℕ → List ℕ
row kind fields = (4 + length fields) ∷ 0 ∷ kind ∷ 0 ∷ fields

abbrev rows : List (List ℕ) → List ℕ
rows [] = []
rows (r ∷ rs) = r ++ rows rs

abbrev whole : ℕ → List ℕ
whole n = row 2 (n ∷ 0 ∷ 0 ∷ 0 ∷ [])

abbrev name : ℕ → List ℕ
name n = row 3 (n ∷ [])

abbrev pattern : ℕ → List ℕ
pattern n = row 32 (n ∷ [])

-- ---- the example of "The walk print"

abbrev example : List ℕ
example =
    rows
    (pattern 0
    ∷ whole 1
    ∷ whole 3
    ∷ row 11 (1 ∷ 2 ∷ [])
    ∷ name 0
    ∷ whole 2
    ∷ row 5 (6 ∷ 4 ∷ 5 ∷ [])
    ∷ name 0
    ∷ whole 1
    ∷ row 5 (7 ∷ 7 ∷ 8 ∷ [])
    ∷ (8 ∷ 0 ∷ 13 ∷ 0 ∷ 0 ∷ 3 ∷ 6 ∷ 9 ∷ [])
    ∷ [])

example_accepted : check example ≡ Ok 11
unfolding check judged_cut judged fault6 fault7 fault8 fault9 chooses is_bound in_condition climb_by height loose holds_name fold_by cut cut_by next is_fit operands shape
example_accepted = refl

-- Every two bytes are a quote: let <65535> = <515> in <255>.
quotes_accepted : check (rows (row 43 (255 ∷ 255 ∷ []) ∷ row 22 (3 ∷ 2 ∷ []) ∷ row 22 (255 ∷ 0 ∷ []) ∷ row 12 (0 ∷ 1 ∷ 2 ∷ []) ∷ [])) ≡ Ok 4
unfolding check judged_cut judged fault6 fault7 fault8 fault9 chooses is_bound in_condition climb_by height loose holds_name fold_by cut cut_by next is_fit operands shape
quotes_accepted = refl

-- ---- a table refused by each rule

-- 3: no byte.
empty : check [] ≡ faulty WrongSize 0
unfolding check judged_cut judged fault6 fault7 fault8 fault9 chooses is_bound in_condition climb_by height loose holds_name fold_by cut cut_by next is_fit operands shape
empty = refl

-- 3: 2,401 bytes.
too_long : check (replicate 2401 0) ≡ faulty WrongSize 0
unfolding check judged_cut judged fault6 fault7 fault8 fault9 chooses is_bound in_condition climb_by height loose holds_name fold_by cut cut_by next is_fit operands shape
too_long = refl

-- 4: fewer than 4 bytes left for record 1.
cut_off : check (rows (whole 1 ∷ (5 ∷ 0 ∷ 1 ∷ []) ∷ [])) ≡ faulty UnfitRecord 1
unfolding check judged_cut judged fault6 fault7 fault8 fault9 chooses is_bound in_condition climb_by height loose holds_name fold_by cut cut_by next is_fit operands shape
cut_off = refl

-- 4: record 1 has an unknown kind.
unknown_kind : check (rows (whole 1 ∷ row 23 [] ∷ whole 2 ∷ [])) ≡ faulty UnfitRecord 1
unfolding check judged_cut judged fault6 fault7 fault8 fault9 chooses is_bound in_condition climb_by height loose holds_name fold_by cut cut_by next is_fit operands shape
unknown_kind = refl

-- 4: a map enumeration with a key and no value.
odd_map : check (rows (whole 1 ∷ row 9 (0 ∷ []) ∷ [])) ≡ faulty UnfitRecord 1
unfolding check judged_cut judged fault6 fault7 fault8 fault9 chooses is_bound in_condition climb_by height loose holds_name fold_by cut cut_by next is_fit operands shape
odd_map = refl

-- 4: a map enumeration pattern with a key and no value.
odd_map_pattern : check (row 41 (0 ∷ [])) ≡ faulty UnfitRecord 0
unfolding check judged_cut judged fault6 fault7 fault8 fault9 chooses is_bound in_condition climb_by height loose holds_name fold_by cut cut_by next is_fit operands shape
odd_map_pattern = refl

-- 4: a quote of one byte, and one of three.
quote_short : check (row 22 (0 ∷ [])) ≡ faulty UnfitRecord 0
unfolding check judged_cut judged fault6 fault7 fault8 fault9 chooses is_bound in_condition climb_by height loose holds_name fold_by cut cut_by next is_fit operands shape
quote_short = refl

quote_long : check (row 22 (0 ∷ 0 ∷ 0 ∷ [])) ≡ faulty UnfitRecord 0
unfolding check judged_cut judged fault6 fault7 fault8 fault9 chooses is_bound in_condition climb_by height loose holds_name fold_by cut cut_by next is_fit operands shape
quote_long = refl

-- 5: 201 records.
too_many : check (rows (replicate 201 (row 33 []))) ≡ faulty TooManyRecords 200
unfolding check judged_cut judged fault6 fault7 fault8 fault9 chooses is_bound in_condition climb_by height loose holds_name fold_by cut cut_by next is_fit operands shape
too_many = refl

-- 6: record 1 names record 0 twice.
named_twice : check (rows (whole 1 ∷ row 5 (7 ∷ 0 ∷ 0 ∷ []) ∷ [])) ≡ faulty WrongNaming 1
unfolding check judged_cut judged fault6 fault7 fault8 fault9 chooses is_bound in_condition climb_by height loose holds_name fold_by cut cut_by next is_fit operands shape
named_twice = refl

-- 6: no record names record 0; and record 2 names itself, but 0 is lower.
never_named : check (rows (whole 1 ∷ whole 2 ∷ row 4 (2 ∷ 2 ∷ []) ∷ [])) ≡ faulty WrongNaming 0
unfolding check judged_cut judged fault6 fault7 fault8 fault9 chooses is_bound in_condition climb_by height loose holds_name fold_by cut cut_by next is_fit operands shape
never_named = refl

-- 6: the last record is a pattern.
last_pattern : check (pattern 0) ≡ faulty WrongNaming 0
unfolding check judged_cut judged fault6 fault7 fault8 fault9 chooses is_bound in_condition climb_by height loose holds_name fold_by cut cut_by next is_fit operands shape
last_pattern = refl

-- 6: the pattern of iota is no name.
iota_any : check (rows (row 33 [] ∷ row 7 [] ∷ row 1 (1 ∷ []) ∷ row 17 (0 ∷ 1 ∷ 2 ∷ []) ∷ [])) ≡ faulty WrongNaming 3
unfolding check judged_cut judged fault6 fault7 fault8 fault9 chooses is_bound in_condition climb_by height loose holds_name fold_by cut cut_by next is_fit operands shape
iota_any = refl

-- 7: forall 0 in set {0} with true: the name in the set operand is not bound.
unbound : check (rows (pattern 0 ∷ name 0 ∷ row 7 (1 ∷ []) ∷ row 1 (1 ∷ []) ∷ row 14 (0 ∷ 2 ∷ 3 ∷ []) ∷ [])) ≡ faulty WrongBinding 1
unfolding check judged_cut judged fault6 fault7 fault8 fault9 chooses is_bound in_condition climb_by height loose holds_name fold_by cut cut_by next is_fit operands shape
unbound = refl

-- 7: forall 0 in set {} with (forall 0 in set {} with true): the inner pattern is bound around its binder.
bound_twice : check (rows (pattern 0 ∷ row 7 [] ∷ pattern 0 ∷ row 7 [] ∷ row 1 (1 ∷ []) ∷ row 14 (2 ∷ 3 ∷ 4 ∷ []) ∷ row 14 (0 ∷ 1 ∷ 5 ∷ []) ∷ [])) ≡ faulty WrongBinding 2
unfolding check judged_cut judged fault6 fault7 fault8 fault9 chooses is_bound in_condition climb_by height loose holds_name fold_by cut cut_by next is_fit operands shape
bound_twice = refl

-- 8: forall 0 in set {} with (let {1} = {} in true).
choice_in_condition : check (rows (pattern 0 ∷ row 7 [] ∷ pattern 1 ∷ row 37 (2 ∷ []) ∷ row 7 [] ∷ row 1 (1 ∷ []) ∷ row 12 (3 ∷ 4 ∷ 5 ∷ []) ∷ row 14 (0 ∷ 1 ∷ 6 ∷ []) ∷ [])) ≡ faulty ChoiceInCondition 6
unfolding check judged_cut judged fault6 fault7 fault8 fault9 chooses is_bound in_condition climb_by height loose holds_name fold_by cut cut_by next is_fit operands shape
choice_in_condition = refl

-- 8: forall 0 in set {} with (let 1 munion - = {|->} in true).
munion_in_condition : check (rows (pattern 0 ∷ row 7 [] ∷ pattern 1 ∷ row 33 [] ∷ row 42 (2 ∷ 3 ∷ []) ∷ row 9 [] ∷ row 1 (1 ∷ []) ∷ row 12 (4 ∷ 5 ∷ 6 ∷ []) ∷ row 14 (0 ∷ 1 ∷ 7 ∷ []) ∷ [])) ≡ faulty ChoiceInCondition 7
unfolding check judged_cut judged fault6 fault7 fault8 fault9 chooses is_bound in_condition climb_by height loose holds_name fold_by cut cut_by next is_fit operands shape
munion_in_condition = refl

-- n times not, on record r and so on.
abbrev nots : ℕ → ℕ → List ℕ
nots zero r = []
nots (suc n) r = row 4 (1 ∷ r ∷ []) ++ nots n (suc r)

-- not .. not true, of height n + 1.
abbrev tower : ℕ → List ℕ
tower n = row 1 (1 ∷ []) ++ nots n 0

-- Height 32 is accepted, 33 is not.
high_enough : check (tower 31) ≡ Ok 32
unfolding check judged_cut judged fault6 fault7 fault8 fault9 chooses is_bound in_condition climb_by height loose holds_name fold_by cut cut_by next is_fit operands shape
high_enough = refl

too_high : check (tower 32) ≡ faulty TooHigh 32
unfolding check judged_cut judged fault6 fault7 fault8 fault9 chooses is_bound in_condition climb_by height loose holds_name fold_by cut cut_by next is_fit operands shape
too_high = refl
