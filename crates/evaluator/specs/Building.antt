-- What an enumeration builds: kinds 7 to 10.
use Rattle.std.specs.Prelude.{◌≡◌, ◌⊎◌, List, ℕ, ◌+◌, ◌≤◌, ◌<◌, eqb, length, cond, Ok, Err}
use Rattle.std.specs.declared.result.Result.{Result}
use Rattle.prelude.specs.declared.Refusal.{Refusal}
use Rattle.prelude.specs.Refusals.{number_of}
use Rattle.values.specs.Value.{Kind, set, sequence, map, tuple, Value, collection, Items, Shaped}
use Rattle.values.specs.Place.{At, Holds}
use Rattle.operators.specs.Answer.{Answer, is, refused, Built, built, stopped, closed}
use Rattle.operators.specs.Enumerations.{add_member, add_item, add_entry, build_on}
use Rattle.calling.specs.Scratch.{Kept}
use Rattle.evaluator.specs.Contract.{Ended, has_value, refusal_at}

-- Enumerations whose operands are added one by one.
abbrev pub Enumerated : ℕ → Type 0
Enumerated k = (k ≡ 7) ⊎ ((k ≡ 8) ⊎ (k ≡ 10))

-- What is built for a kind of record, and what it is in the end: a tuple is built as a sequence.
abbrev pub built_kind : ℕ → Kind
built_kind k = cond (eqb k 7) set (cond (eqb k 9) map sequence)

abbrev pub final_kind : ℕ → Kind
final_kind k = cond (eqb k 10) tuple (built_kind k)

-- The enumeration that builds what a comprehension of kind 18, 19 or 20 builds: 7, 8 or 9.
abbrev pub enumeration_for : ℕ → ℕ
enumeration_for k = cond (eqb k 18) 7 (cond (eqb k 19) 8 9)

abbrev pub add_to : ℕ → Items → Value → Built
add_to k vs v = cond (eqb k 7) (add_member vs v) (add_item vs v)

-- What is built so far, or why it cannot be.
abbrev pub SoFar : Type 0
SoFar = Result (Unit {0}) Refusal

-- What is built so far stands at base, or its refusal is kept.
pub data Pending (k : ℕ) (s : List ℕ) (base : ℕ) (so_far : SoFar) : Built → Type 0 where
  going : {vs : Items} → so_far ≡ Ok tt → At s base (collection (built_kind k) vs) → Pending k s base so_far (built vs)
  halted : {x : Refusal} → so_far ≡ Err x → Pending k s base so_far (stopped (number_of x))

-- ---- one more

pub record AddHeld (k : ℕ) (s : List ℕ) (base : ℕ) (so_far : SoFar) : Type 0 where
  pub which : Enumerated k
  pub before : Built
  pub pending : Pending k s base so_far before
  pub item : Holds s (base + 512)
  pub room : base + 1536 ≤ length s

pub record AddsNext (k : ℕ) (s t : List ℕ) (base : ℕ) (so_far r : SoFar) : Type 0 where
  pub kept : Kept s t base
  pub right : (b : Built) (v : Value) → Pending k s base so_far b → At s (base + 512) v → Pending k t base r (build_on b (λ vs. add_to k vs v))

pub record EnterHeld (s : List ℕ) (base : ℕ) (so_far : SoFar) : Type 0 where
  pub before : Built
  pub pending : Pending 9 s base so_far before
  pub key : Holds s (base + 512)
  pub value : Holds s (base + 1024)
  pub room : base + 1536 ≤ length s

pub record EntersNext (s t : List ℕ) (base : ℕ) (so_far r : SoFar) : Type 0 where
  pub kept : Kept s t base
  pub right : (b : Built) (k v : Value) → Pending 9 s base so_far b → At s (base + 512) k → At s (base + 1024) v → Pending 9 t base r (build_on b (λ vs. add_entry vs k v))

-- ---- the end

-- A tuple has two to four items.
abbrev pub ShapedAs : ℕ → Built → Type 0
ShapedAs k (built vs) = k ≡ 10 → Shaped tuple vs
ShapedAs k (stopped n) = Unit {0}

pub record Finishable (k : ℕ) (s : List ℕ) (base : ℕ) (so_far : SoFar) (r : ℕ) : Type 0 where
  pub before : Built
  pub pending : Pending k s base so_far before
  pub place : r < 256

-- An answer at the record r, as the code has it: its value at base, or its number.
pub data Answers (t : List ℕ) (base r : ℕ) (o : Ended) : Answer → Type 0 where
  valued : {v : Value} → o ≡ has_value → At t base v → Answers t base r o (is v)
  unvalued : {x : Refusal} → o ≡ Err (refusal_at x r) → Answers t base r o (refused (number_of x))

pub record Finishes (k : ℕ) (s t : List ℕ) (base : ℕ) (so_far : SoFar) (r : ℕ) (o : Ended) : Type 0 where
  pub kept : Kept s t base
  pub right : (b : Built) → Pending k s base so_far b → ShapedAs k b → Answers t base r o (closed (final_kind k) b)
