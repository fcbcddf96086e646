-- The state of a run's choices, what it says as lists, and what a choice and the way to the next list do to it. Contracts of lists and the evaluator cite it.
use Rattle.std.specs.Prelude.{◌≡◌, Bool, true, false, cond, List, [], ◌∷◌, ◌++◌, ℕ, ◌+◌, ◌≤◌, length, take, drop, get_or, set, ltb, leb, Ok, Err}
use Rattle.std.proofs.Math.Option.{Option, none, some}
use Rattle.std.specs.declared.result.Result.{Result}
use Rattle.prelude.specs.declared.Refusal.{Refusal}
use Rattle.prelude.specs.declared.Refusal.TheVariants.{TooManyChoices, ListTooShort, EntryTooHigh}
use Rattle.choices.specs.Tree.{most_choices}
use Rattle.choices.specs.Paths.{raise}

-- The state of a run's choices: the entries, of which `len` count and `used` have been taken; beside each taken one the number of ways that it
-- chose among. Where the list is used up and `grow` is set, it grows by 0. In code it is lent bytes (crate `lists`).
pub record Choices : Type 0 where
  pub entries : List ℕ
  pub counts : List ℕ
  pub len : ℕ
  pub used : ℕ
  pub grow : Bool

-- The state of the choices as lists: the entries taken, the number of ways at each, the entries left, and whether a list that is used up grows by 0.
pub record View : Type 0 where
  pub past : List ℕ
  pub met : List ℕ
  pub left : List ℕ
  pub grow : Bool

abbrev pub view : Choices → View
view c = record { past = take c.used c.entries; met = take c.used c.counts; left = drop c.used (take c.len c.entries); grow = c.grow }

-- A state that the functions keep to. Zeros follow the list's end.
pub record Invariant (c : Choices) : Type 0 where
  pub used_within : c.used ≤ c.len
  pub len_within : c.len ≤ most_choices
  pub entries_sized : length c.entries ≡ most_choices
  pub counts_sized : length c.counts ≡ most_choices
  pub zeroed : (k : ℕ) → c.len ≤ k → get_or c.entries k 0 ≡ 0

-- The state before a run under l.
abbrev pub fresh : List ℕ → Bool → View
fresh l g = record { past = []; met = []; left = l; grow = g }

-- A state made for a run under l.
pub record Made (l : List ℕ) (g : Bool) (c : Choices) : Type 0 where
  pub viewed : view c ≡ fresh l g
  pub sound : Invariant c

-- ---- one choice

-- The answer to a choice: the way taken, or refusal 31, 32 or 33.
abbrev pub Answer : Type 0
Answer = Result ℕ Refusal

-- The answer to a choice among n ways, by the entries left.
abbrev pub answer_left : List ℕ → Bool → ℕ → Answer
answer_left [] true n = Ok 0
answer_left [] false n = Err ListTooShort
answer_left (c ∷ l) g n = cond (ltb c n) (Ok c) (Err EntryTooHigh)

-- One choice too many comes before a list's being used up.
abbrev pub answer_of : View → ℕ → Answer
answer_of v n = cond (leb most_choices (length v.past)) (Err TooManyChoices) (answer_left v.left v.grow n)

abbrev pub after_first : List ℕ → List ℕ
after_first [] = []
after_first (c ∷ l) = l

-- The state after an answer to a choice among n ways.
abbrev pub afterwards : View → ℕ → Answer → View
afterwards v n (Ok c) = record { past = v.past ++ c ∷ []; met = v.met ++ n ∷ []; left = after_first v.left; grow = v.grow }
afterwards v n (Err r) = v

-- An answer to a choice, and the state after it.
pub record Picked : Type 0 where
  pub answer : Answer
  pub state : Choices

-- A choice among n ways was made.
pub record Chosen (c : Choices) (n : ℕ) (r : Picked) : Type 0 where
  pub answered : r.answer ≡ answer_of (view c) n
  pub viewed : view r.state ≡ afterwards (view c) n r.answer
  pub sound : Invariant r.state

-- One more entry is used, at n ways, and the list has len entries.
abbrev pub taking : Choices → ℕ → ℕ → Choices
taking c n len = record { entries = c.entries; counts = set c.counts c.used n; len = len; used = c.used + 1; grow = c.grow }

-- ---- on to the next list

abbrev pub maybe : Bool → List ℕ → Option (List ℕ)
maybe true l = some l
maybe false l = none

-- Whether there is a next list, and the state that starts its run.
pub record Advanced : Type 0 where
  pub more : Bool
  pub state : Choices

-- The list is raised, to start a run that grows; or it cannot be.
pub record Moved (c : Choices) (r : Advanced) : Type 0 where
  pub moved : raise (view c).past (view c).met ≡ maybe r.more (view r.state).left
  pub viewed : view r.state ≡ fresh (view r.state).left true
  pub sound : Invariant r.state
