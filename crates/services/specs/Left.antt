-- What the parts of a service answer and leave, before the scratch is cleared: the exported functions' promises are in meaning's `Lent`.
use Rattle.std.specs.Prelude.{◌≡◌, cond, List, ◌++◌, ℕ, ◌≤◌, ltb, length, take, drop, Ok, Err}
use Rattle.std.specs.declared.result.Result.{Result}
use Rattle.choices.specs.Tree.{Final, result, refuses, most_choices}
use Rattle.choices.specs.declared.list.Walk.{Walk as Held}
use Rattle.values.specs.declared.Value.{Value as Copy}
use Rattle.values.specs.Value.{Value, encode, value_limit as largest}
use Rattle.values.specs.Contract.{Shows}
use Rattle.tables.specs.Check.{check}
use Rattle.tables.specs.declared.Rule.TheVariants.{ScratchTooShort, ResultTooShort}
use Rattle.tables.specs.Faults.{Checked, faulty}
use Rattle.tables.specs.Reading.{Indexed}
use Rattle.meaning.specs.Answer.{pack, packed, uncounted}
use Rattle.meaning.specs.Walk.{Walk}
use Rattle.meaning.specs.Service.{scratch_bytes}
use Rattle.meaning.specs.Lent.{zeroed, AfterWalk, walk_after}

-- ---- rules 1 to 9

-- What they answer: 1 where there is too little scratch, 2 where the buffer is too short for a value, else what the check answers.
abbrev pub admits : ℕ → ℕ → List ℕ → Checked
admits scratch buffer table = cond (ltb scratch scratch_bytes) (faulty ScratchTooShort 0) (cond (ltb buffer largest) (faulty ResultTooShort 0) (check table))

-- The answer, and an index of a table that is accepted.
pub record Admits (scratch buffer : ℕ) (table index : List ℕ) (a : Checked) : Type 0 where
  pub answer : a ≡ admits scratch buffer table
  pub indexed : (n : ℕ) → a ≡ Ok n → Indexed table index

-- ---- walks

-- Lent entries and a length, as a walk.
abbrev pub walk_of : List ℕ → ℕ → Walk
walk_of entries len = record { entries = entries; len = len }

-- A walk taken from lent entries and a length.
pub record Loaded (entries : List ℕ) (len : ℕ) (w : Held) : Type 0 where
  pub entries_are : w.entries ≡ take most_choices entries
  pub len_is : w.len ≡ len

-- Lent entries and a length after a walk is written into them.
abbrev pub stored : Held → List ℕ → Walk
stored w entries = record { entries = w.entries ++ drop most_choices entries; len = w.len }

-- An accepted table and enough scratch.
pub record Accepts (table : List ℕ) (count : ℕ) (scratch : List ℕ) : Type 0 where
  pub ok : check table ≡ Ok count
  pub enough : scratch_bytes ≤ length scratch

-- What is due is answered, the walk is the one after it, and what lies beyond the scratch that is needed is untouched.
pub record Left (due : Final (List ℕ)) (w : Walk) (scratch : List ℕ) (r : AfterWalk) : Type 0 where
  pub answered : r.answer ≡ packed uncounted due
  pub walked : r.walk ≡ walk_after due w
  pub beyond : drop scratch_bytes r.scratch ≡ drop scratch_bytes scratch

-- ---- outcomes

-- The value that is due is there, or the answer to the refusal that is.
abbrev pub Given : Final Value → Result Copy ℕ → Type 0
Given (result v) (Ok c) = Shows (encode v) c × (length c.bytes ≡ largest)
Given (result v) (Err a) = ⊥
Given (refuses n p k) (Ok c) = ⊥
Given (refuses n p k) (Err a) = a ≡ pack n p k

-- What is due is given, and what lies beyond the scratch that is needed is untouched.
pub record Evaluated (due : Final Value) (before after : List ℕ) (o : Result Copy ℕ) : Type 0 where
  pub given : Given due o
  pub beyond : drop scratch_bytes after ≡ drop scratch_bytes before

-- The answer, and the result buffer: the value's bytes, or zeros where there is none.
abbrev pub answer_of : Result Copy ℕ → ℕ
answer_of (Ok c) = pack 0 0 0
answer_of (Err a) = a

abbrev pub buffer_of : Result Copy ℕ → List ℕ → List ℕ
buffer_of (Ok c) buffer = c.bytes ++ drop (length c.bytes) buffer
buffer_of (Err a) buffer = zeroed largest buffer
