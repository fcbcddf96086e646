-- What the passes of rule 6 ask and give.
use Rattle.std.specs.Prelude.{◌≡◌, Bool, false, List, [], ℕ, suc, ◌+◌, ◌<◌, ◌≤◌, length, get_or, take, Option}
use Rattle.tables.specs.Record.{named}
use Rattle.tables.specs.Table.{record_at}
use Rattle.tables.specs.Sheet.{is_in}
use Rattle.tables.specs.Check.{most_records, all_named, named_before, has_bad}
use Rattle.tables.specs.Accepted.{records}
use Rattle.checking.specs.Answer.{found}
use Rattle.tables.specs.Reading.{Here}

-- A record of a table of at most 200, and one that has an operand i.
pub record Listed (table : List ℕ) (r : ℕ) : Type 0 where
  pub within : Here table r
  pub few : length (records table) ≤ most_records

pub record ListedOperand (table : List ℕ) (r i : ℕ) : Type 0 where
  pub here : Listed table r
  pub has : i < length (named (record_at (records table) r))

-- A mark stands at just those numbers of records that are in the list.
pub record Marked (marks : List Bool) (ms : List ℕ) : Type 0 where
  pub long : length marks ≡ most_records
  pub is : (n : ℕ) → n < most_records → get_or marks n false ≡ is_in n ms

pub record AskBad (table : List ℕ) (r i : ℕ) (marks : List Bool) : Type 0 where
  pub operand : ListedOperand table r i
  pub marked : Marked marks (named_before (records table) r i)

pub record AskMarks (table : List ℕ) (r : ℕ) (marks : List Bool) : Type 0 where
  pub here : Listed table r
  pub marked : Marked marks (all_named (take r (records table)))

pub record MarkedOne (table : List ℕ) (r : ℕ) (marks : List Bool) (bad : Bool) : Type 0 where
  pub is : bad ≡ has_bad (records table) r
  pub marked : Marked marks (all_named (take (suc r) (records table)))

pub record AskNext (table : List ℕ) (r : ℕ) (low : Option ℕ) (marks : List Bool) : Type 0 where
  pub ask : AskMarks table r marks
  pub is : low ≡ found (has_bad (records table)) r

pub record MarkedNext (table : List ℕ) (r : ℕ) (marks : List Bool) (low : Option ℕ) : Type 0 where
  pub is : low ≡ found (has_bad (records table)) (r + 1)
  pub marked : Marked marks (all_named (take (suc r) (records table)))

-- A table of at most 200 records, and their number.
pub record WholeTable (table : List ℕ) (count : ℕ) : Type 0 where
  pub few : length (records table) ≤ most_records
  pub all : count ≡ length (records table)

pub record AskAll (table : List ℕ) (count : ℕ) (marks : List Bool) : Type 0 where
  pub whole : WholeTable table count
  pub marked : Marked marks []

pub record MarkedAll (table : List ℕ) (marks : List Bool) (low : Option ℕ) : Type 0 where
  pub is : low ≡ found (has_bad (records table)) (length (records table))
  pub marked : Marked marks (all_named (records table))

pub record AskStray (table : List ℕ) (count : ℕ) (marks : List Bool) : Type 0 where
  pub whole : WholeTable table count
  pub marked : Marked marks (all_named (records table))
