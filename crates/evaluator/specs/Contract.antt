-- The one contract of all functions that evaluate: for a record of an accepted table, an environment that holds a state, and a state of the choices,
-- the outcome and the choices after it are those of the record's meaning, the value stands at the base, and everything below the base is as it was.
use Rattle.std.specs.Prelude.{◌≡◌, List, ℕ, ◌+◌, ◌*◌, ◌≤◌, ◌<◌, length, get_or, take, Ok, Err}
use Rattle.std.specs.declared.result.Result.{Result}
use Rattle.prelude.specs.declared.Refusal.{Refusal}
use Rattle.prelude.specs.Refusals.{number_of}
use Rattle.values.specs.Value.{Value}
use Rattle.values.specs.Place.{At}
use Rattle.tables.specs.Record.{operator, operand}
use Rattle.tables.specs.Table.{record_at}
use Rattle.tables.specs.Sheet.{height}
use Rattle.tables.specs.Check.{check}
use Rattle.tables.specs.Accepted.{records}
use Rattle.choices.specs.State.{Choices, Invariant}
use Rattle.choices.specs.Tree.{Tree, result, refuses}
use Rattle.choices.specs.Runs.{Came}
use Rattle.parts.specs.Part.{CellIs}
use Rattle.patterns.specs.Binding.{names, cell_of}
use Rattle.calling.specs.Scratch.{Kept}
use Rattle.meaning.specs.State.{State}
use Rattle.meaning.specs.Meaning.{meaning}
use Rattle.meaning.specs.Read.{sheet}
use Rattle.evaluator.specs.declared.Refused.{Refused}
use Rattle.parts.specs.declared.words.Env.{Env}
use Rattle.parts.specs.Word.{unpacked}

-- How many bytes a record takes from its base on, before those of its operands.
abbrev pub level : ℕ
level = 2048

-- What each name stands for, as sixteen words.
abbrev pub env_of : List ℕ → Env
env_of words = record { words = words }

-- An accepted table.
pub record Legal (table : List ℕ) : Type 0 where
  pub count : ℕ
  pub ok : check table ≡ Ok count

-- The words of the environment stand for the state, by what lies below base.
pub record Around (s : List ℕ) (base : ℕ) (env : Env) (ρ : State) : Type 0 where
  pub words_sized : length env.words ≡ names
  pub sized : length ρ ≡ names
  pub cells : (x : ℕ) → x < names → CellIs (take base s) (unpacked (get_or env.words x 0)) (cell_of ρ x)

-- What is asked: a record of the table, room for its height, an environment that holds some state, and choices in order.
pub record Ask (table : List ℕ) (r : ℕ) (s : List ℕ) (base : ℕ) (env : Env) (c : Choices) : Type 0 where
  pub legal : Legal table
  pub within : r < length (records table)
  pub room : base + level * height (records table) r ≤ length s
  pub low : length s ≤ 65536
  pub state : State
  pub around : Around s base env state
  pub sound : Invariant c

-- What an evaluation answers: there is a value, or why there is none.
abbrev pub Ended : Type 0
Ended = Result (Unit {0}) Refused

abbrev pub has_value : Ended
has_value = Ok tt

-- A refusal of the record r.
abbrev pub refusal_at : Refusal → ℕ → Refused
refusal_at x r = record { refusal = x; place = r; count = 0 }

-- The same of any answer: its refusal is that of the record r.
abbrev pub at_record : {A : Type 0} → Result A Refusal → ℕ → Result A Refused
at_record (Ok a) r = Ok a
at_record (Err x) r = Err (refusal_at x r)

-- How an evaluation ended, and the choices after it.
pub record Evaluated : Type 0 where
  pub outcome : Ended
  pub choices : Choices

abbrev pub ended : Ended → Choices → Evaluated
ended o d = record { outcome = o; choices = d }

-- What a run of the tree comes to, as the code has it: a value of which P holds, or a refusal.
pub data Comes {A : Type 0} (t : Tree A) (P : A → Type 0) (c : Choices) (e : Evaluated) : Type 0 where
  gave : {a : A} → e.outcome ≡ has_value → P a → Came t c (result a) e.choices → Comes t P c e
  off : {x : Refused} → e.outcome ≡ Err x → Came t c (refuses (number_of x.refusal) x.place x.count) e.choices → Comes t P c e

-- What is promised, of the meaning m: everything below base is kept, and in every state around the run of m comes to it.
pub record Gives {A : Type 0} (m : State → Tree A) (P : A → Type 0) (s t : List ℕ) (base : ℕ) (env : Env) (c : Choices) (e : Evaluated) : Type 0 where
  pub kept : Kept s t base
  pub right : (ρ : State) → Around s base env ρ → Comes (m ρ) P c e

-- The meaning of the record r, and the promise of evaluating it.
abbrev pub meant : List ℕ → ℕ → State → Tree Value
meant table r ρ = meaning (sheet table) r ρ

abbrev pub Evaluates : List ℕ → ℕ → List ℕ → List ℕ → ℕ → Env → Choices → Evaluated → Type 0
Evaluates table r s t base env c e = Gives (meant table r) (At t base) s t base env c e

abbrev pub operator_at : List ℕ → ℕ → ℕ
operator_at table r = operator (record_at (records table) r)

abbrev pub operand_at : List ℕ → ℕ → ℕ → ℕ
operand_at table r i = operand (record_at (records table) r) i

-- ---- ends

abbrev pub value_as : Choices → Evaluated
value_as c = ended has_value c

abbrev pub refused_as : Refusal → ℕ → Choices → Evaluated
refused_as x r c = ended (Err (refusal_at x r)) c
