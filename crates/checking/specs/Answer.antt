-- What the check answers, and what it leaves in the index.
use Rattle.std.specs.Prelude.{◌≡◌, Bool, cond, List, ℕ, ◌≤◌, ◌<◌, ltb, length, get_or, Option, Some, None, Ok}
use Rattle.std.specs.Option.{option_or}
use Rattle.tables.specs.declared.Rule.{Rule}
use Rattle.tables.specs.declared.Rule.TheVariants.{WrongBinding, ChoiceInCondition}
use Rattle.tables.specs.declared.Fault.{Fault}
use Rattle.tables.specs.Faults.{Checked}
use Rattle.tables.specs.Record.{Record}
use Rattle.tables.specs.Sheet.{lowest}
use Rattle.tables.specs.Check.{fault7, fault8}
use Rattle.tables.specs.Accepted.{records}
use Rattle.tables.specs.Check.{most_bytes, check}
use Rattle.tables.specs.Reading.{EntriesOf, Indexed}

-- The lowest number below n that passes a test, if there is one.
abbrev pub found : (ℕ → Bool) → ℕ → Option ℕ
found test n = cond (ltb (lowest test n) n) (Some (lowest test n)) None

-- The rule that is broken, at the record at fault, if there is one.
abbrev pub broken : Rule → Option ℕ → Option Fault
broken rule None = None
broken rule (Some place) = Some (record { rule = rule; place = place })

-- The first of rules 7 and 8 that is broken among the first n records.
abbrev pub broken_scope : List Record → ℕ → Option Fault
broken_scope rs n = option_or (broken WrongBinding (found (fault7 rs) n)) (broken ChoiceInCondition (found (fault8 rs) n))

-- The index finds all records of a table that is accepted. Whatever the answer, it has an entry for each of the first 200 records that were cut, and what
-- stood behind them before; a table of over 2,400 bytes is not cut, and the index is as it was.
pub record Checks (table before index : List ℕ) (a : Checked) : Type 0 where
  pub answer : a ≡ check table
  pub indexed : (n : ℕ) → a ≡ Ok n → Indexed table index
  pub entries : length table ≤ most_bytes → EntriesOf table index (length (records table))
  pub rest : length table ≤ most_bytes → (r : ℕ) → length (records table) ≤ r → get_or index r 0 ≡ get_or before r 0
  pub unread : most_bytes < length table → index ≡ before
