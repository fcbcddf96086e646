-- Where the records of a table stand in its bytes, and how an index finds them.
use Rattle.std.specs.Prelude.{◌≡◌, cond, List, ℕ, ◌+◌, ◌/◌, ◌%◌, ◌≤◌, ◌<◌, length, get_or, drop, Option, Some, None, Ok}
use Rattle.integers.specs.Bytes.{word}
use Rattle.tables.specs.Record.{Record, named}
use Rattle.tables.specs.Table.{fault, one, next, first_record, record_at, Cut, cut}
use Rattle.tables.specs.Check.{most_records}
use Rattle.tables.specs.Accepted.{records}
use Rattle.tables.specs.declared.Rule.TheVariants.{UnfitRecord}
use Rattle.tables.specs.Faults.{Checked, faulty}

-- The record x stands at a place of the table: length, kind, then one-byte fields. (Length and kind are below 256.)
pub record Stands (table : List ℕ) (at : ℕ) (x : Record) : Type 0 where
  pub fits : at + 4 + length x.fields ≤ length table
  pub long : get_or table at 0 ≡ 4 + length x.fields
  pub kind : get_or table (at + 2) 0 ≡ x.kind
  pub field : (i : ℕ) → i < length x.fields → get_or table (at + 4 + i) 0 ≡ get_or x.fields i 0

-- An entry of the index holds a record's place, its kind and its second field.
abbrev pub place_in : ℕ → ℕ
place_in e = e % 65536

abbrev pub kind_in : ℕ → ℕ
kind_in e = e / 65536 % 256

abbrev pub second_in : ℕ → ℕ
second_in e = e / 65536 / 256 % 256

-- The entry e is that of the record x of the table: where it stands, its kind, and its second field; what stands for a second field that it does not
-- have is free.
pub record EntryOf (table : List ℕ) (e : ℕ) (x : Record) : Type 0 where
  pub stands : Stands table (place_in e) x
  pub kind : kind_in e ≡ x.kind
  pub second : 1 < length x.fields → second_in e ≡ get_or x.fields 1 0

-- The index has an entry for each record of the table, as far as it goes.
abbrev pub EntriesOf : List ℕ → List ℕ → ℕ → Type 0
EntriesOf table index n = (r : ℕ) → r < n → r < most_records → EntryOf table (get_or index r 0) (record_at (records table) r)

-- An index of all records of a table of at most 200.
pub record Indexed (table index : List ℕ) : Type 0 where
  pub few : length (records table) ≤ most_records
  pub entry : (r : ℕ) → r < length (records table) → EntryOf table (get_or index r 0) (record_at (records table) r)

-- A record of a table, one that has a field i, and one that has an operand i.
abbrev pub Here : List ℕ → ℕ → Type 0
Here table r = r < length (records table)

pub record HasField (table : List ℕ) (r i : ℕ) : Type 0 where
  pub here : Here table r
  pub has : i < length (record_at (records table) r).fields

pub record HasOperand (table : List ℕ) (r i : ℕ) : Type 0 where
  pub here : Here table r
  pub has : i < length (named (record_at (records table) r))

-- The record at the start of some bytes has the length n.
pub record Long (bytes : List ℕ) (n : ℕ) : Type 0 where
  pub good : next bytes ≡ one (first_record bytes) (drop n bytes)
  pub is : n ≡ word bytes 0

-- The length of the record at the start of some bytes; none where rule 4 finds a fault.
abbrev pub Measured : List ℕ → Option ℕ → Type 0
Measured bytes None = next bytes ≡ fault
Measured bytes (Some n) = Long bytes n

-- The entry of a record of a length at the start of some bytes.
pub record Packs (bytes : List ℕ) (at len e : ℕ) : Type 0 where
  pub place : place_in e ≡ at
  pub kind : kind_in e ≡ get_or bytes 2 0
  pub second : 5 < len → second_in e ≡ get_or bytes 5 0

-- What is answered to a table that was cut: the number of records, or the first fault of rule 4, at the record behind them.
abbrev pub counted : Cut → Checked
counted c = cond c.whole (Ok (length c.records)) (faulty UnfitRecord (length c.records))

-- What cutting a table finds: the answer, and an index of the records. Behind their entries the index is as it was before.
pub record CutOut (table before index : List ℕ) (a : Checked) : Type 0 where
  pub answer : a ≡ counted (cut table)
  pub entries : EntriesOf table index (length (records table))
  pub rest : (r : ℕ) → length (records table) ≤ r → get_or index r 0 ≡ get_or before r 0
