-- What one pass over the records keeps: which are left to be named, and what each holds and leaves free.
use Rattle.std.specs.Prelude.{◌≡◌, Bool, true, false, not, ◌&&◌, ◌||◌, cond, List, [], ℕ, suc, ◌+◌, ◌^◌, ◌<◌, ◌≤◌, eqb, ltb, length, get_or, set, take, Option, Some, None, is_some}
use Rattle.std.specs.Bool.{then_some}
use Rattle.std.specs.Int.Bits.{bit_and, bit_or, bit_xor}
use Rattle.tables.specs.declared.Role.{Role}
use Rattle.tables.specs.declared.Role.TheVariants.{Plain, Condition, Body, Pattern, Name}
use Rattle.tables.specs.Record.{Record, is_pattern, named, operand, role_at, name_of}
use Rattle.tables.specs.Table.{record_at, kind_at}
use Rattle.tables.specs.Sheet.{is_in, holds_name, is_covered, is_condition, is_binder, pattern_of, is_bound, in_condition}
use Rattle.tables.specs.Check.{most_records, all_named, has_bad, chooses, fault7, fault8}
use Rattle.tables.specs.Accepted.{records}
use Rattle.tables.specs.Check.{Clear6}
use Rattle.checking.specs.Naming.{Listed, WholeTable}
use Rattle.checking.specs.Scopes.{has_bit, or_bits, bits_below}
use Rattle.checking.specs.declared.sweep.Sum.{Sum}

-- Rules 6 to 8 are kept.
pub record Keeps (rs : List Record) : Type 0 where
  pub clear6 : Clear6 rs
  pub clear7 : (r : ℕ) → r < length rs → fault7 rs r ≡ false
  pub clear8 : (r : ℕ) → r < length rs → fault8 rs r ≡ false

-- ---- bits

-- The bits of a that b does not have.
unfoldable pub without : ℕ → ℕ → ℕ
without a b = bit_xor (bit_or a b) b

-- Two records hold no name in common: names are the bits from 2 on.
unfoldable pub apart : ℕ → ℕ → Bool
apart a b = ltb (bit_and a b) 4

-- ---- records left to be named

-- 1 for an expression, 2 for a pattern.
abbrev pub sort_of : ℕ → ℕ
sort_of kind = cond (is_pattern kind) 2 1

-- The sort of each record below r that is not named in ms, and 0 elsewhere.
abbrev pub left_at : List Record → ℕ → List ℕ → ℕ → ℕ
left_at rs r ms n = cond (ltb n r && not (is_in n ms)) (sort_of (kind_at rs n)) 0

pub record Left (rs : List Record) (left : List ℕ) (r : ℕ) (ms : List ℕ) : Type 0 where
  pub long : length left ≡ 256
  pub is : (n : ℕ) → n < 256 → get_or left n 0 ≡ left_at rs r ms n
  pub lower : (n : ℕ) → is_in n ms ≡ true → n < r

-- The sort that a role asks for, and whether a record is a name where one is asked for.
abbrev pub asked : Role → ℕ
asked Plain = 1
asked Condition = 1
asked Body = 1
asked Pattern = 2
asked Name = 2

abbrev pub is_named : Role → ℕ → Bool
is_named Plain kind = true
is_named Condition kind = true
is_named Body kind = true
is_named Pattern kind = true
is_named Name kind = eqb kind 32

-- ---- names that are read and not bound, and choices

-- What a record hands on of an operand's free bits: all, or without the names that it binds; none where a name is bound anew or a condition has a choice.
abbrev pub covered_by : ℕ → ℕ → ℕ → Option ℕ
covered_by names held free = then_some (apart held names) (without free names)

abbrev pub handed_on : Role → ℕ → ℕ → ℕ → Option ℕ
handed_on Plain names held free = Some free
handed_on Condition names held free = cond (has_bit free 0) None (covered_by names held free)
handed_on Body names held free = covered_by names held free
handed_on Pattern names held free = Some free
handed_on Name names held free = Some free

-- The bits that are free at a record by itself: that its kind chooses, with a pattern that holds the names; or the name that it reads.
unfoldable pub choice_of : ℕ → ℕ → ℕ
choice_of kind names = cond (eqb kind 13 || (eqb kind 12 && has_bit names 1)) 1 0

unfoldable pub free_own : Record → ℕ → ℕ
free_own x names = cond (eqb x.kind 3) (2 ^ (name_of x + 2)) (choice_of x.kind names)

-- The free bits m of operand i of record q are among its own, o, or bound there; no name is bound anew, and no condition has a choice.
pub record Passes (rs : List Record) (q i m o : ℕ) : Type 0 where
  pub name : (n : ℕ) → has_bit m (n + 2) ≡ true → has_bit o (n + 2) || (is_covered (role_at (record_at rs q) i) && holds_name rs (pattern_of rs q) n) ≡ true
  pub choice : has_bit m 0 ≡ true → has_bit o 0 ≡ true
  pub outside : has_bit m 0 ≡ true → is_condition (role_at (record_at rs q) i) ≡ false
  pub fresh : (n : ℕ) → holds_name rs (operand (record_at rs q) i) n ≡ true → is_covered (role_at (record_at rs q) i) && holds_name rs (pattern_of rs q) n ≡ false

-- The free bits of record q have what it reads and chooses, and what its operands leave free.
pub record Frees (rs : List Record) (frees : List ℕ) (q o : ℕ) : Type 0 where
  pub read : kind_at rs q ≡ 3 → has_bit o (name_of (record_at rs q) + 2) ≡ true
  pub chosen : chooses rs q ≡ true → has_bit o 0 ≡ true
  pub pass : (i : ℕ) → i < length (named (record_at rs q)) → Passes rs q i (get_or frees (operand (record_at rs q) i) 0) o

-- The free bits m are allowed at record r: each name is bound around it, and a choice lies outside conditions.
pub record Allowed (rs : List Record) (r m : ℕ) : Type 0 where
  pub bound : (n : ℕ) → has_bit m (n + 2) ≡ true → is_bound rs r n ≡ true
  pub outside : has_bit m 0 ≡ true → in_condition rs r ≡ false

-- ---- one more operand

-- The operand n of a record; where it is left to be named, it is in the table.
pub record AskOperand (table : List ℕ) (n : ℕ) (left : List ℕ) : Type 0 where
  pub few : length (records table) ≤ most_records
  pub byte : n < 256
  pub within : 0 < get_or left n 0 → n < length (records table)

-- Operand n is left, of the sort that its role asks for, binds no name anew and, as a condition, has no choice.
abbrev pub suits : List Record → Role → ℕ → ℕ → List ℕ → List ℕ → List ℕ → Bool
suits rs role n names left below frees =
    eqb (get_or left n 0) (asked role) && (is_named role (kind_at rs n) && is_some (handed_on role names (get_or below n 0) (get_or frees n 0)))

-- What a record comes to without its operand n, s, and with it, t.
pub record Added (rs : List Record) (role : Role) (n names : ℕ) (left left' below frees : List ℕ) (s t : Sum) : Type 0 where
  pub sort : get_or left n 0 ≡ asked role
  pub kind : is_named role (kind_at rs n) ≡ true
  pub left_is : left' ≡ set left n 0
  pub handed : ℕ
  pub hands : handed_on role names (get_or below n 0) (get_or frees n 0) ≡ Some handed
  pub held : t.held ≡ or_bits s.held (get_or below n 0)
  pub free : t.free ≡ or_bits s.free handed

-- A record comes to something with its operand n exactly where the operand suits.
pub record Adds (rs : List Record) (role : Role) (n names : ℕ) (left left' below frees : List ℕ) (s : Sum) (o : Option Sum) : Type 0 where
  pub told : is_some o ≡ suits rs role n names left below frees
  pub added : (t : Sum) → o ≡ Some t → Added rs role n names left left' below frees s t

-- What a record comes to by itself, of the bits that it holds and leaves free.
abbrev pub alone_of : ℕ → ℕ → Sum
alone_of held free = record { held = held; free = free }

-- The role of all operands of a kind that binds nothing.
abbrev pub one_role : ℕ → Role
one_role kind = cond (is_pattern kind) Pattern Plain

-- The bits that pattern p of record r holds, where it is lower.
abbrev pub names_of : List ℕ → ℕ → ℕ → ℕ
names_of below r p = cond (ltb p r) (get_or below p 0) 0

-- ---- the pass

-- What is known of the records below r; most of it where all keep rule 6, which the pass finds out by the way.
pub record Known (rs : List Record) (below frees : List ℕ) (r : ℕ) : Type 0 where
  pub long_below : length below ≡ most_records
  pub long_frees : length frees ≡ most_records
  pub held : Clear6 rs → (q : ℕ) → q < r → get_or below q 0 ≡ bits_below rs q
  pub zero_below : (q : ℕ) → r ≤ q → get_or below q 0 ≡ 0
  pub zero_frees : (q : ℕ) → r ≤ q → get_or frees q 0 ≡ 0
  pub free : Clear6 rs → (q : ℕ) → q < r → Frees rs frees q (get_or frees q 0)
  pub allowed : Keeps rs → (q : ℕ) → q < r → Allowed rs q (get_or frees q 0)

pub record AskSum (table : List ℕ) (r : ℕ) (left below frees : List ℕ) : Type 0 where
  pub here : Listed table r
  pub left_is : Left (records table) left r (all_named (take r (records table)))
  pub kept : Known (records table) below frees r

-- The names that a binder's pattern holds.
pub record Names (rs : List Record) (r names : ℕ) : Type 0 where
  pub are : Clear6 rs → is_binder (kind_at rs r) ≡ true → names ≡ bits_below rs (pattern_of rs r)

pub record AskKind (table : List ℕ) (r kind : ℕ) (left below frees : List ℕ) : Type 0 where
  pub ask : AskSum table r left below frees
  pub is : kind ≡ kind_at (records table) r

-- What a record that is not at fault and its operands come to.
pub record Sums (rs : List Record) (r : ℕ) (left frees : List ℕ) (s : Sum) : Type 0 where
  pub good : has_bad rs r ≡ false
  pub left_is : Left rs left r (all_named (take (suc r) rs))
  pub held : Clear6 rs → s.held ≡ bits_below rs r
  pub free : Clear6 rs → Frees rs frees r s.free
  pub allowed : Keeps rs → Allowed rs r s.free

-- A record and its operands come to something where rules 6 to 8 are kept.
pub record Gathered (rs : List Record) (r : ℕ) (left frees : List ℕ) (o : Option Sum) : Type 0 where
  pub told : Keeps rs → is_some o ≡ true
  pub sums : (s : Sum) → o ≡ Some s → Sums rs r left frees s

-- What is known once record r is added.
pub record RecordAdded (rs : List Record) (r : ℕ) (left below frees : List ℕ) : Type 0 where
  pub good : has_bad rs r ≡ false
  pub left_is : Left rs left (r + 1) (all_named (take (suc r) rs))
  pub kept : Known rs below frees (r + 1)

pub record AskSweep (table : List ℕ) (count : ℕ) (left below frees : List ℕ) : Type 0 where
  pub whole : WholeTable table count
  pub left_is : Left (records table) left 0 []
  pub kept : Known (records table) below frees 0

-- What is known after all records.
pub record Passed (rs : List Record) (left frees : List ℕ) : Type 0 where
  pub good : (q : ℕ) → q < length rs → has_bad rs q ≡ false
  pub left_is : Left rs left (length rs) (all_named rs)
  pub free : Clear6 rs → (q : ℕ) → q < length rs → Frees rs frees q (get_or frees q 0)
  pub allowed : Keeps rs → (q : ℕ) → q < length rs → Allowed rs q (get_or frees q 0)

-- No record below n is left.
abbrev pub NoneLeft : List ℕ → ℕ → Type 0
NoneLeft left n = (q : ℕ) → q < n → get_or left q 0 ≡ 0

-- The last record is an expression, with no name free, and the only one left.
pub record Closed (left frees : List ℕ) (last : ℕ) : Type 0 where
  pub one : get_or left last 0 ≡ 1
  pub none : NoneLeft left last
  pub shut : get_or frees last 0 < 4
