-- What every operator on scratch asks and promises. Its operands stand at `base` and `second` bytes above it; `workspace` bytes from `base` on
-- are there to work in. It leaves its value at `base` and everything below `base` as it was; nothing is promised of what lies above.
use Rattle.std.specs.Prelude.{◌≡◌, List, ℕ, ◌+◌, ◌≤◌, length, Result, ⊤, Ok, Err}
use Rattle.prelude.specs.declared.Refusal.{Refusal}
use Rattle.prelude.specs.Refusals.{number_of}
use Rattle.values.specs.Value.{Value}
use Rattle.values.specs.Place.{At, Holds}
use Rattle.operators.specs.Answer.{Answer, is, refused}
use Rattle.calling.specs.Scratch.{second, workspace, Kept}

-- ---- what is asked

-- Some value stands at base, and there is room to work in.
pub record One (s : List ℕ) (base : ℕ) : Type 0 where
  pub held : Holds s base
  pub room : base + workspace ≤ length s

-- Some value stands at base, another one above it, and there is room to work in.
pub record Two (s : List ℕ) (base : ℕ) : Type 0 where
  pub left : Holds s base
  pub right : Holds s (base + second)
  pub room : base + workspace ≤ length s

-- ---- what is promised

-- What an operator's code answers: that its value stands at base, or why it has none.
abbrev pub Applied : Type 0
Applied = Result ⊤ Refusal

-- The answer, as the code has it: its value at base, or the refusal that has its number.
pub data Applies (t : List ℕ) (base : ℕ) (r : Applied) : Answer → Type 0 where
  done : {v : Value} → r ≡ Ok tt → At t base v → Applies t base r (is v)
  off : {e : Refusal} {n : ℕ} → r ≡ Err e → n ≡ number_of e → Applies t base r (refused n)

-- r is what f answers on the value at base.
pub record OnOne (f : Value → Answer) (s t : List ℕ) (base : ℕ) (r : Applied) : Type 0 where
  pub kept : Kept s t base
  pub right : (v : Value) → At s base v → Applies t base r (f v)

-- r is what f answers on the value at base and the one above it.
pub record OnTwo (f : Value → Value → Answer) (s t : List ℕ) (base : ℕ) (r : Applied) : Type 0 where
  pub kept : Kept s t base
  pub right : (v w : Value) → At s base v → At s (base + second) w → Applies t base r (f v w)

-- r is the answer x.
pub record Gives (x : Answer) (s t : List ℕ) (base : ℕ) (r : Applied) : Type 0 where
  pub kept : Kept s t base
  pub right : Applies t base r x
