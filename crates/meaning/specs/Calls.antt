-- Document 01, "The walk": a whole list of calls of the first list and the step, with one table, on one walk. Each call has a scratch of its own
-- and is lent the walk, or too few entries of it, as the last one left it; what is not lent stays as it is.
use Rattle.std.specs.Prelude.{◌≡◌, Bool, true, false, ◌⊎◌, List, [], ◌∷◌, ◌++◌, ℕ, suc, ◌+◌, ◌<◌, eqb, take, drop}
use Rattle.choices.specs.Tree.{most_choices}
use Rattle.meaning.specs.Answer.{number_part}
use Rattle.meaning.specs.Walk.{Walk}
use Rattle.meaning.specs.Lent.{AfterWalk, first_call, step_call}

-- ---- one call

-- What is lent of a walk's entries: `count` of them, or as many as there are, from the entry `from` on. That is the walk from its first entry
-- on, or a part that has too few.
pub record Part : Type 0 where
  pub from : ℕ
  pub count : ℕ
  pub fair : (from ≡ 0) ⊎ (count < most_choices)

pub data Service : Type 0 where
  first step : Service

pub record Call : Type 0 where
  pub service : Service
  pub part : Part
  pub scratch : List ℕ

-- The walk as it is lent; and the walk w again, after a call that left v of what it was lent.
abbrev pub lent_walk : Part → Walk → Walk
lent_walk p w = record { entries = take p.count (drop p.from w.entries); len = w.len }

abbrev pub returned : Part → Walk → Walk → Walk
returned p w v = record { entries = take p.from w.entries ++ v.entries ++ drop (p.from + p.count) w.entries; len = v.len }

-- What a call answers and leaves of what it is lent.
abbrev pub serve : Service → List ℕ → Walk → List ℕ → AfterWalk
serve first table w scratch = first_call table w scratch
serve step table w scratch = step_call table w scratch

abbrev pub called : List ℕ → Call → Walk → AfterWalk
called table c w = serve c.service table (lent_walk c.part w) c.scratch

-- The walk after a call.
abbrev pub after_call : List ℕ → Call → Walk → Walk
after_call table c w = returned c.part w (called table c w).walk

-- Granted means number 0.
abbrev pub Granted : List ℕ → Call → Walk → Type 0
Granted table c w = number_part (called table c w).answer ≡ 0

abbrev pub is_granted : List ℕ → Call → Walk → Bool
is_granted table c w = eqb (number_part (called table c w).answer) 0

-- ---- a list of calls

-- The walk after one call after the other, the first of the list first.
abbrev pub after_all : List ℕ → List Call → Walk → Walk
after_all table [] w = w
after_all table (c ∷ cs) w = after_all table cs (after_call table c w)

-- The steps granted since the last granted first list: after a call, where there were k before it; and after a list of calls.
abbrev pub tally : Service → Bool → ℕ → ℕ
tally s false k = k
tally first true k = 0
tally step true k = suc k

abbrev pub granted : List ℕ → List Call → Walk → ℕ → ℕ
granted table [] w k = k
granted table (c ∷ cs) w k = granted table cs (after_call table c w) (tally c.service (is_granted table c w) k)

-- The calls of demand 3 start from any entries and any length whatever, followed by a granted first list; and then any calls.
pub record Calls (table : List ℕ) : Type 0 where
  pub start : Walk
  pub begin : Call
  pub is_first : begin.service ≡ first
  pub is_granted : Granted table begin start
  pub more : List Call

-- The walk after them, and the number of steps granted since the last granted first list.
abbrev pub final_walk : {table : List ℕ} → Calls table → Walk
final_walk {table} cs = after_all table (cs.begin ∷ cs.more) cs.start

abbrev pub steps_of : {table : List ℕ} → Calls table → ℕ
steps_of {table} cs = granted table (cs.begin ∷ cs.more) cs.start 0
