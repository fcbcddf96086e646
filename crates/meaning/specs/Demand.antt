-- Demand 3: what a walk shows after every list of calls, what its next call answers, and the walk's lists against the loose meaning. What is
-- believed stands here; `demand3` (`Laws/Demand`) proves it of every accepted table.
use Rattle.std.specs.Prelude.{◌≡◌, Bool, true, ◌⊎◌, ◌↔◌, List, ℕ, ◌≤◌, ◌<◌, length, drop}
use Rattle.prelude.specs.Membership.{In}
use Rattle.choices.specs.Tree.{follow, gave, most_choices, Gives}
use Rattle.choices.specs.Outcome.{Outcome, value, refusal}
use Rattle.choices.specs.Lists.{Complete, before, CountBefore, First, Next}
use Rattle.values.specs.Value.{set, Value, boolean, collection, Items, encode, WellFormed, value_limit as largest}
use Rattle.patterns.specs.Binding.{Binding}
use Rattle.patterns.specs.Pattern.{list_of}
use Rattle.patterns.specs.Binder.{bound, formed}
use Rattle.patterns.specs.Relation.{Matches}
use Rattle.meaning.specs.Node.{let_be}
use Rattle.meaning.specs.State.{State, unbound, under}
use Rattle.meaning.specs.Meaning.{meaning}
use Rattle.meaning.specs.Loose.{loose_meaning}
use Rattle.meaning.specs.Read.{sheet}
use Rattle.meaning.specs.Answer.{pack, number_part}
use Rattle.meaning.specs.Walk.{Bytes, Walk, walk_list, Shows}
use Rattle.meaning.specs.Service.{scratch_bytes, last, tree}
use Rattle.meaning.specs.Lent.{AfterEvaluate, evaluate_call, filled_up, zeroed}
use Rattle.meaning.specs.Reaches.{point, Reaches}
use Rattle.meaning.specs.Calls.{first, step, Call, called, Granted, Calls, steps_of, lent_walk, after_call, final_walk}

-- ---- what the walk shows

-- A complete list, with k complete lists before it in dictionary order.
pub record Held (table : List ℕ) (w : Walk) (k : ℕ) : Type 0 where
  pub list : List ℕ
  pub shown : Shows w list
  pub complete : Complete (tree table) list
  pub counted : CountBefore (tree table) list k

-- ---- what a call answers

-- The buffers of a call are long enough.
pub record Enough (c : Call) (w : Walk) : Type 0 where
  pub enough_scratch : scratch_bytes ≤ length c.scratch
  pub enough_entries : most_choices ≤ length (lent_walk c.part w).entries

-- 1: too little scratch. 10: too few entries.
pub record Refusals (table : List ℕ) (w : Walk) : Type 0 where
  pub short_scratch : (c : Call) → length c.scratch < scratch_bytes → (called table c w).answer ≡ pack 1 0 0
  pub few_entries : (c : Call) → scratch_bytes ≤ length c.scratch → length (lent_walk c.part w).entries < most_choices → (called table c w).answer ≡ pack 10 0 0

-- With long enough buffers the first list is granted and shows the first complete list.
pub record FirstAnswers (table : List ℕ) (c : Call) (w : Walk) : Type 0 where
  pub answer : (called table c w).answer ≡ pack 0 0 0
  pub list : List ℕ
  pub shown : Shows (after_call table c w) list
  pub is_first : First (tree table) list

-- With long enough buffers a step of a walk whose list is l is granted and shows the next complete list; or it answers 35 and leaves the walk,
-- where no complete list comes after l.
pub record Stepped (table : List ℕ) (c : Call) (w : Walk) (l : List ℕ) : Type 0 where
  pub answer : (called table c w).answer ≡ pack 0 0 0
  pub list : List ℕ
  pub shown : Shows (after_call table c w) list
  pub is_next : Next (tree table) l list

pub record NoNext (table : List ℕ) (c : Call) (w : Walk) (l : List ℕ) : Type 0 where
  pub answer : (called table c w).answer ≡ pack 35 0 0
  pub is_last : (m : List ℕ) → Complete (tree table) m → before l m → ⊥
  pub stays : after_call table c w ≡ w

-- ---- outcomes

-- What evaluating under a complete list may answer: 0, or 20 to 31.
abbrev pub CompleteNumber : ℕ → Type 0
CompleteNumber n = (n ≡ 0) ⊎ ((20 ≤ n) × (n ≤ 31))

-- No run meets a 65th choice: under no list of up to 64 bytes does evaluating end in 31.
abbrev pub NeverMany : List ℕ → List ℕ → List ℕ → Type 0
NeverMany table scratch buffer = (l : List ℕ) → Bytes l → length l ≤ most_choices → number_part (evaluate_call table l scratch buffer).answer ≡ 31 → ⊥

-- Evaluating answers the outcome: success, with the value's encoding and then zeros in the result buffer; or the refusal's number and place, with
-- zeros there.
abbrev pub EvaluatesTo : List ℕ → AfterEvaluate → Outcome Value → Type 0
EvaluatesTo buffer e (value v) = WellFormed v × (e.answer ≡ pack 0 0 0) × (e.buffer ≡ filled_up largest (encode v) buffer)
EvaluatesTo buffer e (refusal n p) = (20 ≤ n) × (n ≤ 30) × (e.answer ≡ pack n p 0) × (e.buffer ≡ zeroed largest buffer)

-- Some complete list of bytes evaluates to the outcome.
pub record Reached (table scratch buffer : List ℕ) (o : Outcome Value) : Type 0 where
  pub list : List ℕ
  pub bytes : Bytes list
  pub complete : Complete (tree table) list
  pub answers : EvaluatesTo buffer (evaluate_call table list scratch buffer) o

-- ---- a let-be of a run

-- Record r is a let-be with pattern p, set operand t, condition c and body b. In the state ρ, with k choices allowed and the entries l left, its set
-- operand gives the set of vs, and leaves j choices and the entries m.
pub record LetBe (table : List ℕ) (r p t c b : ℕ) (ρ : State) (k : ℕ) (l : List ℕ) (vs : Items) (j : ℕ) (m : List ℕ) : Type 0 where
  pub is_let_be : (sheet table).node r ≡ let_be p t c b
  pub given : follow (meaning (sheet table) t ρ) k l ≡ gave (collection set vs) j m

-- The condition c comes to x under the binding β.
abbrev pub ConditionIs : List ℕ → ℕ → State → Binding → Bool → Type 0
ConditionIs table c ρ β x = Gives (meaning (sheet table) c (under ρ β)) (value (boolean x))

-- The bindings are within the limits, and the condition is true or false at each.
pub record Settled (table : List ℕ) (p c : ℕ) (ρ : State) (vs : Items) : Type 0 where
  pub all : List Binding
  pub within : formed ((sheet table).pattern p) (list_of vs) ≡ bound all
  pub decided : (β : Binding) → In β all → (x : Bool) × ConditionIs table c ρ β x

-- No binding matches a member of the set and makes the condition true.
abbrev pub NoBinding : List ℕ → ℕ → ℕ → State → Items → Type 0
NoBinding table p c ρ vs = (v : Value) (β : Binding) → In v (list_of vs) → Matches ((sheet table).pattern p) v β → ConditionIs table c ρ β true → ⊥

-- The run under the list reaches the let-be r, and its set operand gives a set there; its bindings are within the limits, and its condition is true
-- or false at each; and no binding matches a member of the set and makes the condition true.
pub record Unsatisfied (table list : List ℕ) (r : ℕ) : Type 0 where
  pub pattern : ℕ
  pub set_operand : ℕ
  pub condition : ℕ
  pub body : ℕ
  pub state : State
  pub allowed : ℕ
  pub entries : List ℕ
  pub members : Items
  pub allowed_after : ℕ
  pub entries_after : List ℕ
  pub reached : Reaches table list (point r state allowed entries)
  pub is_let_be : LetBe table r pattern set_operand condition body state allowed entries members allowed_after entries_after
  pub settled : Settled table pattern condition state members
  pub none : NoBinding table pattern condition state members

-- ---- demand 3

pub record Demand3 (table : List ℕ) : Type 0 where
  -- After the calls the walk shows the complete list with as many complete lists before it as steps were granted since the last granted first list.
  pub held : (cs : Calls table) → Held table (final_walk cs) (steps_of cs)
  -- Nothing beyond 64 was touched.
  pub untouched : (cs : Calls table) → drop most_choices (final_walk cs).entries ≡ drop most_choices cs.start.entries
  -- A refusal of either call leaves the walk.
  pub refused : (w : Walk) (c : Call) → (Granted table c w → ⊥) → after_call table c w ≡ w
  -- What a further call answers: 1 and 10, on any walk; the first list, on any walk; the step, on any walk whose length is at most 64 and whose
  -- entries below it are a complete list, whatever follows them; and so the step after the calls.
  pub refusals : (w : Walk) → Refusals table w
  pub first_granted : (w : Walk) (c : Call) → c.service ≡ first → Enough c w → FirstAnswers table c w
  pub steps_on : (w : Walk) (c : Call) → c.service ≡ step → Enough c w → w.len ≤ most_choices → Complete (tree table) (walk_list w)
      → Stepped table c w (walk_list w) ⊎ NoNext table c w (walk_list w)
  pub step_answers : (cs : Calls table) (c : Call) → c.service ≡ step → Enough c (final_walk cs) → (l : List ℕ) → Shows (final_walk cs) l
      → Stepped table c (final_walk cs) l ⊎ NoNext table c (final_walk cs) l
  -- A list of at most 64 bytes is complete exactly when evaluating under it, with long enough buffers, answers 0 or 20 to 31.
  pub complete_answers : (scratch buffer : List ℕ) → scratch_bytes ≤ length scratch → largest ≤ length buffer → (l : List ℕ) → Bytes l → length l ≤ most_choices
      → Complete (tree table) l ↔ CompleteNumber (number_part (evaluate_call table l scratch buffer).answer)
  -- Where no run meets a 65th choice, some complete list of bytes evaluates to an outcome exactly when the loose meaning of the last record has it.
  pub outcomes : (scratch buffer : List ℕ) → scratch_bytes ≤ length scratch → largest ≤ length buffer → NeverMany table scratch buffer → (o : Outcome Value)
      → Reached table scratch buffer o ↔ loose_meaning (sheet table) (last (sheet table)) unbound o
  -- With long enough buffers, evaluating under a complete list answers 24 at r exactly when its run reaches the let-be r, with bindings within the
  -- limits and a condition true or false at each, and no binding matches a member of its set and makes its condition true.
  pub no_binding : (scratch buffer : List ℕ) → scratch_bytes ≤ length scratch → largest ≤ length buffer → (l : List ℕ) → Complete (tree table) l → (r : ℕ)
      → ((evaluate_call table l scratch buffer).answer ≡ pack 24 r 0) ↔ Unsatisfied table l r
