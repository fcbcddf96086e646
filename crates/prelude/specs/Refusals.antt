-- The numbers of the refusals of a run.
use Rattle.std.specs.Prelude.{ℕ}
use Rattle.prelude.specs.declared.Refusal.{Refusal}
use Rattle.prelude.specs.declared.Refusal.TheVariants.{WrongKind, OutOfRange, ByZero, NoMatch, NoBinding, NotUnique, NotThere, Clash, TooLarge, TooLargeToSplit, TooManyBindings, TooManyChoices, ListTooShort, EntryTooHigh, EntriesLeft}

abbrev pub number_of : Refusal → ℕ
number_of WrongKind = 20
number_of OutOfRange = 21
number_of ByZero = 22
number_of NoMatch = 23
number_of NoBinding = 24
number_of NotUnique = 25
number_of NotThere = 26
number_of Clash = 27
number_of TooLarge = 28
number_of TooLargeToSplit = 29
number_of TooManyBindings = 30
number_of TooManyChoices = 31
number_of ListTooShort = 32
number_of EntryTooHigh = 33
number_of EntriesLeft = 34
