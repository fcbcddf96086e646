-- Document 01, "Table records" and "From the input": where a table breaks each of the rules 3 to 9, and what the check answers. Each rule is a relation in its
-- words, over the bytes of a table or the list of its records. `check_exact` (proofs/Rules/Exact) proves that the check answers so.
use Rattle.std.specs.Prelude.{◌≡◌, true, ◌⊎◌, ◌↔◌, List, [], ◌∷◌, ◌++◌, ℕ, zero, suc, ◌+◌, ◌*◌, ◌<◌, ◌≤◌, length, drop, Ok}
use Rattle.integers.specs.Bytes.{word}
use Rattle.integers.specs.Whole.{InRange}
use Rattle.tables.specs.declared.Role.{Role}
use Rattle.tables.specs.declared.Role.TheVariants.{Plain, Condition, Body, Pattern, Name}
use Rattle.tables.specs.declared.Rule.{Rule as RuleName}
use Rattle.tables.specs.declared.Rule.TheVariants.{WrongSize, UnfitRecord, TooManyRecords, WrongNaming, WrongBinding, ChoiceInCondition, TooHigh}
use Rattle.tables.specs.Faults.{faulty}
use Rattle.tables.specs.Limits.{most_bytes, most_records, most_height}
use Rattle.tables.specs.Record.{Record, expression, pattern, Head, nothing, boolean, integer, quote, name, unary, binary, unknown, Shape, shape, size, head_of, field, name_of, operator, integer_of, quote_of, named, operand, role_at}
use Rattle.tables.specs.Table.{first_record, record_at, kind_at}
use Rattle.tables.specs.Check.{check}

-- ---- rule 3

-- Rule 3: table empty or over 2,400 bytes. The place is 0.
pub data Broken3 (table : List ℕ) (p : ℕ) : Type 0 where
  empty : p ≡ 0 → length table ≡ 0 → Broken3 table p
  large : p ≡ 0 → most_bytes < length table → Broken3 table p

-- ---- rule 4

-- A number of fields is fit for a kind: those of its head and its operands, the least number of them or more by steps, at most one for each role.
pub record FitLength (s : Shape) (n : ℕ) : Type 0 where
  pub steps : ℕ
  pub is : n ≡ size s.head + s.least + steps * s.step
  pub most : n ≤ size s.head + length s.roles

-- A literal, name or operator is known: booleans are 0 and 1, names 0 to 15, unary operators 1 to 15, binary ones 1 to 28. (Every four bytes are an integer in
-- range, every two a quote; a kind without a row has the head `unknown`.)
abbrev pub Known : Head → Record → Type 0
Known nothing x = Unit {0}
Known boolean x = field x 0 ≤ 1
Known integer x = InRange (integer_of x)
Known quote x = quote_of x ≤ 65535
Known name x = name_of x ≤ 15
Known unary x = (1 ≤ operator x) × (operator x ≤ 15)
Known binary x = (1 ≤ operator x) × (operator x ≤ 28)
Known unknown x = ⊥

-- No record stands at the start of the bytes that are left: fewer than 4 bytes left for a record; a length under 4, past the end or unfit for the kind; unknown
-- kind, operator, name or literal.
pub data Unfit (left : List ℕ) : Type 0 where
  few_left : length left < 4 → Unfit left
  length_under : word left 0 < 4 → Unfit left
  length_past : length left < word left 0 → Unfit left
  length_unfit : ¬ FitLength (shape (first_record left).kind) (length (first_record left).fields) → Unfit left
  not_known : ¬ Known (head_of (first_record left)) (first_record left) → Unfit left

-- What follows the first record.
abbrev pub after_first : List ℕ → List ℕ
after_first bytes = drop (word bytes 0) bytes

-- Record p begins where these bytes are left: record 0 with the table, and record p + 1 as record p of what follows the first record.
abbrev pub Begins : List ℕ → ℕ → List ℕ → Type 0
Begins table zero left = left ≡ table
Begins table (suc p) left = ¬ Unfit table × Begins (after_first table) p left

-- Rule 4: record p begins before the end of the table, and no record stands there.
pub record Broken4 (table : List ℕ) (p : ℕ) : Type 0 where
  pub left : List ℕ
  pub begins : Begins table p left
  pub some_left : 0 < length left
  pub unfit : Unfit left

-- These are the records of the table: one after the other, and nothing is left after the last.
abbrev pub RecordsOf : List ℕ → List Record → Type 0
RecordsOf table [] = length table ≡ 0
RecordsOf table (x ∷ rs) = ¬ Unfit table × (x ≡ first_record table) × RecordsOf (after_first table) rs

-- ---- rule 5

-- Rule 5: over 200 records. The place is 200.
pub record Broken5 (table : List ℕ) (p : ℕ) : Type 0 where
  pub place : p ≡ most_records
  pub records : List Record
  pub are : RecordsOf table records
  pub many : most_records < length records

-- ---- rule 6

-- Operand i of record q names the record n.
pub record Names (rs : List Record) (q i n : ℕ) : Type 0 where
  pub is_record : q < length rs
  pub is_operand : i < length (named (record_at rs q))
  pub is : operand (record_at rs q) i ≡ n

-- A record of this kind is of the sort that the role asks for. P marks a pattern, other operands are expressions. In 17 and 19 P is kind 32.
abbrev pub OfSort : Role → ℕ → Type 0
OfSort Plain kind = (shape kind).sort ≡ expression
OfSort Condition kind = (shape kind).sort ≡ expression
OfSort Body kind = (shape kind).sort ≡ expression
OfSort Pattern kind = (shape kind).sort ≡ pattern
OfSort Name kind = kind ≡ 32

-- Operand j of record q stands before operand i of record r.
abbrev pub Before : ℕ → ℕ → ℕ → ℕ → Type 0
Before q j r i = (q < r) ⊎ ((q ≡ r) × (j < i))

-- Rule 6: an operand not lower, of the wrong sort, or named before; a record (but the last) never named; a pattern as the last.
pub data Fault6 (rs : List Record) (r : ℕ) : Type 0 where
  not_lower : (i n : ℕ) → Names rs r i n → r ≤ n → Fault6 rs r
  wrong_sort : (i n : ℕ) → Names rs r i n → ¬ OfSort (role_at (record_at rs r) i) (kind_at rs n) → Fault6 rs r
  is_named_before : (i n q j : ℕ) → Names rs r i n → Names rs q j n → Before q j r i → Fault6 rs r
  never_named : suc r < length rs → ((q i : ℕ) → ¬ Names rs q i r) → Fault6 rs r
  pattern_last : suc r ≡ length rs → (shape (kind_at rs r)).sort ≡ pattern → Fault6 rs r

-- ---- rule 7

-- Record r is record a, or lies below it: is, or lies below, one that a names.
pub data Within (rs : List Record) (r : ℕ) : ℕ → Type 0 where
  itself : Within rs r r
  below : {a : ℕ} (i n : ℕ) → Names rs a i n → Within rs r n → Within rs r a

-- A pattern p holds the name n: it is, or has below it, a pattern of kind 32 with that name.
pub record Holds (rs : List Record) (p n : ℕ) : Type 0 where
  pub part : ℕ
  pub within : Within rs part p
  pub kind : kind_at rs part ≡ 32
  pub is : name_of (record_at rs part) ≡ n

-- A binder's names cover its condition, body, element, key and value.
abbrev pub Covered : Role → Type 0
Covered Plain = ⊥
Covered Condition = Unit {0}
Covered Body = Unit {0}
Covered Pattern = ⊥
Covered Name = ⊥

-- The name n is bound around the record r: the first operand of a binder, its pattern, holds n, and r is or lies below an operand that the binder's names
-- cover.
pub record Bound (rs : List Record) (r n : ℕ) : Type 0 where
  pub binder : ℕ
  pub its_pattern : ℕ
  pub first : Names rs binder 0 its_pattern
  pub holds : Holds rs its_pattern n
  pub number : ℕ
  pub inner : ℕ
  pub names : Names rs binder number inner
  pub covered : Covered (role_at (record_at rs binder) number)
  pub around : Within rs r inner

-- The record b is the binder of the pattern r: an expression whose first operand is a pattern, which is r or has r below it.
pub record BinderOf (rs : List Record) (r b : ℕ) : Type 0 where
  pub its_pattern : ℕ
  pub first : Names rs b 0 its_pattern
  pub binds : (shape (kind_at rs b)).sort ≡ expression
  pub is_pattern : (shape (kind_at rs its_pattern)).sort ≡ pattern
  pub around : Within rs r its_pattern

-- Rule 7: a name not bound around it, or a pattern name already bound around its binder. The place is that name's record.
pub data Fault7 (rs : List Record) (r : ℕ) : Type 0 where
  unbound : kind_at rs r ≡ 3 → ¬ Bound rs r (name_of (record_at rs r)) → Fault7 rs r
  bound_already : kind_at rs r ≡ 32 → (b : ℕ) → BinderOf rs r b → Bound rs b (name_of (record_at rs r)) → Fault7 rs r

-- ---- rule 8

-- A pattern p is loose: it is, or has below it, a 37, 38, 40, 41 or 42. (Their rows say so.)
pub record Loose (rs : List Record) (p : ℕ) : Type 0 where
  pub part : ℕ
  pub within : Within rs part p
  pub is_loose : (shape (kind_at rs part)).loose ≡ true

-- Kind 13, or a loose let.
pub data Chooses (rs : List Record) (r : ℕ) : Type 0 where
  let_be : kind_at rs r ≡ 13 → Chooses rs r
  loose_let : kind_at rs r ≡ 12 → (p : ℕ) → Names rs r 0 p → Loose rs p → Chooses rs r

-- The record r is, or lies below, the condition of a binder.
pub record InCondition (rs : List Record) (r : ℕ) : Type 0 where
  pub binder : ℕ
  pub number : ℕ
  pub condition : ℕ
  pub names : Names rs binder number condition
  pub is_condition : role_at (record_at rs binder) number ≡ Condition
  pub inside : Within rs r condition

-- Rule 8: kind 13 or a loose let inside a condition.
abbrev pub Fault8 : List Record → ℕ → Type 0
Fault8 rs r = Chooses rs r × InCondition rs r

-- ---- rule 9

-- The heights of the records: a record without operands has 1, others one more than the highest operand. (Where operands are lower, there is one such function.)
pub record Heights (rs : List Record) (height : ℕ → ℕ) : Type 0 where
  pub without : (r : ℕ) → r < length rs → length (named (record_at rs r)) ≡ 0 → height r ≡ 1
  pub others : (r i n : ℕ) → Names rs r i n → ((j m : ℕ) → Names rs r j m → height m ≤ height n) → height r ≡ suc (height n)

-- Rule 9: height over 32.
pub record Fault9 (rs : List Record) (r : ℕ) : Type 0 where
  pub height : ℕ → ℕ
  pub heights : Heights rs height
  pub over : most_height < height r

-- ---- the rules in order

-- A rule on the records of a table is broken at record p.
pub record OfRecords (Fault : List Record → ℕ → Type 0) (table : List ℕ) (p : ℕ) : Type 0 where
  pub records : List Record
  pub are : RecordsOf table records
  pub is_record : p < length records
  pub fault : Fault records p

-- A rule: its name, and the records at which a table breaks it.
pub record Rule : Type 1 where
  pub name : RuleName
  pub BrokenAt : List ℕ → ℕ → Type 0

abbrev pub rule : RuleName → (List ℕ → ℕ → Type 0) → Rule
rule n BrokenAt = record { name = n; BrokenAt = BrokenAt }

-- Tested in this order, each over the whole table before the next.
abbrev pub rules : List Rule
rules =
    rule WrongSize Broken3
    ∷ rule UnfitRecord Broken4
    ∷ rule TooManyRecords Broken5
    ∷ rule WrongNaming (OfRecords Fault6)
    ∷ rule WrongBinding (OfRecords Fault7)
    ∷ rule ChoiceInCondition (OfRecords Fault8)
    ∷ rule TooHigh (OfRecords Fault9)
    ∷ []

-- Some rules are broken nowhere.
abbrev pub Kept : List Rule → List ℕ → Type 0
Kept [] table = Unit {0}
Kept (u ∷ us) table = ((p : ℕ) → ¬ u.BrokenAt table p) × Kept us table

-- The rule n refuses the table at p: it is broken at p, at no record below p, and no earlier rule is broken anywhere.
pub record Refuses (table : List ℕ) (n : RuleName) (p : ℕ) : Type 1 where
  pub earlier : List Rule
  pub broken : Rule
  pub later : List Rule
  pub in_order : rules ≡ earlier ++ broken ∷ later
  pub name : broken.name ≡ n
  pub here : broken.BrokenAt table p
  pub lowest : (q : ℕ) → q < p → ¬ broken.BrokenAt table q
  pub kept : Kept earlier table

-- The table is accepted: no rule is broken anywhere, and k is the number of records.
pub record Accepts (table : List ℕ) (k : ℕ) : Type 0 where
  pub kept : Kept rules table
  pub records : List Record
  pub are : RecordsOf table records
  pub number : k ≡ length records

-- A table is turned away, by a rule and a record, exactly when a rule refuses it.
pub record CheckIsExact (table : List ℕ) : Type 1 where
  pub refused : (n : RuleName) (p : ℕ) → check table ≡ faulty n p ↔ Refuses table n p
  pub accepted : (k : ℕ) → check table ≡ Ok k ↔ Accepts table k
