-- Document 01, "From the input": rules 3 to 9, and the check of a table.
use Rattle.std.specs.Prelude.{◌≡◌, Bool, false, not, ◌&&◌, ◌||◌, cond, List, [], ◌∷◌, ◌++◌, ℕ, suc, ◌<◌, eqb, ltb, length, take, Ok}
use Rattle.tables.specs.declared.Role.{Role}
use Rattle.tables.specs.declared.Role.TheVariants.{Plain, Condition, Body, Pattern, Name}
use Rattle.tables.specs.declared.Rule.{Rule as RuleName}
use Rattle.tables.specs.declared.Rule.TheVariants.{WrongSize, UnfitRecord, TooManyRecords, WrongNaming, WrongBinding, ChoiceInCondition, TooHigh}
use Rattle.tables.specs.Faults.{Checked, faulty}
pub use Rattle.tables.specs.Limits.{most_bytes, most_records, most_height}
use Rattle.tables.specs.Record.{Record, is_expression, is_pattern, named, operand, role_at, name_of}
use Rattle.tables.specs.Table.{Cut, cut, record_at, kind_at}
use Rattle.tables.specs.Sheet.{any, lowest, is_in, loose, height, pattern_of, is_bound, in_condition}

-- ---- rule 6

-- A record of this kind is of the sort that the role asks for. In 17 and 19 P is kind 32.
abbrev pub is_of_sort : Role → ℕ → Bool
is_of_sort Plain kind = is_expression kind
is_of_sort Condition kind = is_expression kind
is_of_sort Body kind = is_expression kind
is_of_sort Pattern kind = is_pattern kind
is_of_sort Name kind = eqb kind 32

-- All numbers that the records name, in order.
abbrev pub all_named : List Record → List ℕ
all_named [] = []
all_named (r ∷ rs) = named r ++ all_named rs

-- The numbers named before operand i of record r: by lower records, and by earlier operands of r.
abbrev pub named_before : List Record → ℕ → ℕ → List ℕ
named_before rs r i = all_named (take r rs) ++ take i (named (record_at rs r))

-- Operand i of record r is not lower, of the wrong sort, or named before.
abbrev pub is_bad : List Record → ℕ → ℕ → Bool
is_bad rs r i =
    not (ltb (operand (record_at rs r) i) r) || not (is_of_sort (role_at (record_at rs r) i) (kind_at rs (operand (record_at rs r) i)))
    || is_in (operand (record_at rs r) i) (named_before rs r i)

abbrev pub has_bad : List Record → ℕ → Bool
has_bad rs r = any (is_bad rs r) (length (named (record_at rs r)))

-- A record never named, or a pattern as the last.
abbrev pub is_stray : List Record → ℕ → Bool
is_stray rs r = cond (eqb (suc r) (length rs)) (is_pattern (kind_at rs r)) (not (is_in r (all_named rs)))

-- Rule 6: an operand not lower, of the wrong sort, or named before; a record never named; a pattern as the last.
unfoldable pub fault6 : List Record → ℕ → Bool
fault6 rs r = has_bad rs r || is_stray rs r

-- rule 6 is kept
abbrev pub Clear6 : List Record → Type 0
Clear6 rs = (r : ℕ) → r < length rs → fault6 rs r ≡ false

-- ---- rules 7 to 9

-- Rule 7: a name not bound around it, or a pattern name already bound around its binder.
unfoldable pub fault7 : List Record → ℕ → Bool
fault7 rs r =
    (eqb (kind_at rs r) 3 && not (is_bound rs r (name_of (record_at rs r)))) || (eqb (kind_at rs r) 32 && is_bound rs r (name_of (record_at rs r)))

-- Kind 13 and a loose let meet a choice.
unfoldable pub chooses : List Record → ℕ → Bool
chooses rs r = eqb (kind_at rs r) 13 || (eqb (kind_at rs r) 12 && loose rs (pattern_of rs r))

-- Rule 8: kind 13 or a loose let inside a condition.
unfoldable pub fault8 : List Record → ℕ → Bool
fault8 rs r = chooses rs r && in_condition rs r

-- Rule 9: height over 32.
unfoldable pub fault9 : List Record → ℕ → Bool
fault9 rs r = ltb most_height (height rs r)

-- ---- the check

-- A rule: its name, and the test of a record in a table.
pub record Rule : Type 0 where
  pub name : RuleName
  pub fault : List Record → ℕ → Bool

abbrev pub rule : RuleName → (List Record → ℕ → Bool) → Rule
rule n f = record { name = n; fault = f }

-- In this order, each over the whole table before the next; the place is the lowest record at fault.
abbrev pub judge : List Rule → List Record → Checked
judge [] rs = Ok (length rs)
judge (u ∷ us) rs =
    let place = lowest (u.fault rs) (length rs) in
    let later = judge us rs in
    cond (ltb place (length rs)) (faulty u.name place) later

unfoldable pub judged : List Record → Checked
judged rs = judge (rule WrongNaming fault6 ∷ rule WrongBinding fault7 ∷ rule ChoiceInCondition fault8 ∷ rule TooHigh fault9 ∷ []) rs

-- Rules 4 and 5: a fault in cutting, at the record that cannot be cut; over 200 records.
unfoldable pub judged_cut : Cut → Checked
judged_cut c =
    let later = judged c.records in
    let counted = cond (ltb most_records (length c.records)) (faulty TooManyRecords most_records) later in
    cond (not c.whole) (faulty UnfitRecord (length c.records)) counted

-- Rule 3: table empty or over 2,400 bytes.
unfoldable pub check : List ℕ → Checked
check table =
    let later = judged_cut (cut table) in
    cond (eqb (length table) 0 || ltb most_bytes (length table)) (faulty WrongSize 0) later
