-- The numbers of the rules, and the answer to a table that breaks one.
use Rattle.std.specs.Prelude.{ℕ, Err}
use Rattle.std.specs.declared.result.Result.{Result}
use Rattle.tables.specs.declared.Rule.{Rule}
use Rattle.tables.specs.declared.Rule.TheVariants.{ScratchTooShort, ResultTooShort, WrongSize, UnfitRecord, TooManyRecords, WrongNaming, WrongBinding, ChoiceInCondition, TooHigh, WrongListSize}
use Rattle.tables.specs.declared.Fault.{Fault}

abbrev pub number_of : Rule → ℕ
number_of ScratchTooShort = 1
number_of ResultTooShort = 2
number_of WrongSize = 3
number_of UnfitRecord = 4
number_of TooManyRecords = 5
number_of WrongNaming = 6
number_of WrongBinding = 7
number_of ChoiceInCondition = 8
number_of TooHigh = 9
number_of WrongListSize = 10

-- What the check of a table answers: its number of records, or the rule that is broken and the place.
abbrev pub Checked : Type 0
Checked = Result ℕ Fault

abbrev pub faulty : Rule → ℕ → Checked
faulty rule place = Err (record { rule = rule; place = place })
