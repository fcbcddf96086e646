-- What holds of every accepted table, by the tests of the check: what crates that read accepted tables cite. `accepted_fine` (Laws/Accepted) proves it, and what follows for its records.
-- What the check accepts and refuses, exactly and by relations, is `CheckIsExact` (Rules).
use Rattle.std.specs.Prelude.{◌≡◌, true, false, List, ℕ, ◌<◌, ◌≤◌, length}
use Rattle.std.specs.Prelude.{Ok}
use Rattle.tables.specs.Record.{Record, is_fit}
use Rattle.tables.specs.Table.{cut, record_at}
use Rattle.tables.specs.Check.{most_records, fault6, fault7, fault8, fault9, check}

-- The records of a table.
abbrev pub records : List ℕ → List Record
records table = (cut table).records

-- No rule is broken.
pub record Fine (rs : List Record) : Type 0 where
  pub some_record : 0 < length rs
  pub few : length rs ≤ most_records
  pub fit : (r : ℕ) → r < length rs → is_fit (record_at rs r) ≡ true
  pub clear6 : (r : ℕ) → r < length rs → fault6 rs r ≡ false
  pub clear7 : (r : ℕ) → r < length rs → fault7 rs r ≡ false
  pub clear8 : (r : ℕ) → r < length rs → fault8 rs r ≡ false
  pub clear9 : (r : ℕ) → r < length rs → fault9 rs r ≡ false

-- What the check accepts breaks no rule, and the answer is the number of its records. (One way only; both ways: `CheckIsExact`.)
abbrev pub AcceptedIsFine : Type 0
AcceptedIsFine = (table : List ℕ) (n : ℕ) → check table ≡ Ok n → Fine (records table) × (n ≡ length (records table))
