-- What running a list, the first list and the step answer, as the code has it, and what is asked for them.
use Rattle.std.specs.Prelude.{◌≡◌, Bool, false, cond, List, ℕ, ltb, length, Ok, Err}
use Rattle.choices.specs.State.{Choices, view, Invariant}
use Rattle.choices.specs.declared.list.Walk.{Walk as Held}
use Rattle.choices.specs.Tree.{Final, result, refuses, most_choices}
use Rattle.choices.specs.Lists.{Complete}
use Rattle.choices.specs.Paths.{next_list}
use Rattle.choices.specs.Listing.{Runnable, list_held}
use Rattle.choices.specs.Ran.{at_end}
use Rattle.lists.specs.Lent.{lent}
use Rattle.values.specs.Value.{Value}
use Rattle.values.specs.Place.{At}
use Rattle.tables.specs.Check.{check}
use Rattle.meaning.specs.Answer.{pack, packed, uncounted}
use Rattle.meaning.specs.Walk.{Walk}
use Rattle.meaning.specs.Service.{scratch_bytes, tree, runs, stepped_from, onward}
use Rattle.meaning.specs.Lent.{walk_after}
use Rattle.walks.specs.declared.Stepped.{Stepped}
use Rattle.prelude.specs.declared.Refusal.{Refusal}
use Rattle.prelude.specs.declared.Refusal.TheVariants.{EntriesLeft}
use Rattle.prelude.specs.Refusals.{number_of}
use Rattle.evaluator.specs.declared.Refused.{Refused}
use Rattle.evaluator.specs.Contract.{Ended, refusal_at}

-- An accepted table, of `count` records, and the scratch of a run.
pub record Walkable (table : List ℕ) (count : ℕ) (s : List ℕ) : Type 0 where
  pub ok : check table ≡ Ok count
  pub room : length s ≡ scratch_bytes

-- ---- outcomes: the code's word for what a run answers

-- What the code's outcome tells, which has no value in it.
abbrev pub told : Ended → Final (Unit {0})
told (Ok u) = result tt
told (Err e) = refuses (number_of e.refusal) e.place e.count

-- A final answer without its value.
abbrev pub valueless : {A : Type 0} → Final A → Final (Unit {0})
valueless (result a) = result tt
valueless (refuses n p k) = refuses n p k

-- A refusal as one number.
abbrev pub packed_refused : Refused → ℕ
packed_refused e = pack (number_of e.refusal) e.place e.count

-- The number of an outcome: that of success where there is a value.
abbrev pub packed_of : Ended → ℕ
packed_of (Ok u) = pack 0 0 0
packed_of (Err e) = packed_refused e

-- The list is complete: its run ended in 20 to 31.
abbrev pub is_of_sheet : Refusal → Bool
is_of_sheet x = ltb (number_of x) 32

-- 34 in place of a value and of 20 to 31, where entries are left.
abbrev pub left_over : Ended → ℕ → Ended
left_over (Ok u) last = Err (refusal_at EntriesLeft last)
left_over (Err e) last = cond (is_of_sheet e.refusal) (Err (refusal_at EntriesLeft e.place)) (Err e)

-- What a run answers: its outcome, where no entry is left.
abbrev pub settled : Ended → Choices → ℕ → Ended
settled o d last = cond (ltb d.used d.len) (left_over o last) o

-- ---- the run of a list

-- The outcome of the run of a list is the definition's, and its value stands at the start of the scratch.
pub record Ran (table l s : List ℕ) (o : Ended) : Type 0 where
  pub outcome : told o ≡ valueless (runs table l)
  pub value : (v : Value) → runs table l ≡ result v → At s 0 v

-- ---- from one list to the next

-- A walk as the services have it.
abbrev pub lent_of : Held → Walk
lent_of w = record { entries = w.entries; len = w.len }

-- What is due is answered, and the walk is the one after it.
pub record Answers (due : Final (List ℕ)) (w : Held) (r : Stepped) : Type 0 where
  pub answer : r.answer ≡ packed uncounted due
  pub walk : lent_of r.walk ≡ walk_after due (lent_of w)
  pub sized : length r.walk.entries ≡ most_choices

-- The run of a walk's complete list has ended: its choices are at the list's end.
pub record AtEnd (table : List ℕ) (w : Held) (run : List ℕ) : Type 0 where
  pub runnable : Runnable w
  pub complete : Complete (tree table) (list_held w)
  pub sound : Invariant (lent run)
  pub ended : view (lent run) ≡ at_end (tree table) (list_held w) false

-- A step asks for an accepted table, and a walk whose list can be run.
pub record Steppable (table : List ℕ) (count : ℕ) (s : List ℕ) (w : Held) : Type 0 where
  pub walkable : Walkable table count s
  pub runnable : Runnable w

-- It answers 32, 33 or 34 where the run of the walk's list does, and otherwise the next complete list, or 35.
abbrev pub Steps : List ℕ → Held → Stepped → Type 0
Steps table w r = Answers (stepped_from (runs table (list_held w)) (onward (next_list (tree table) (list_held w)))) w r
