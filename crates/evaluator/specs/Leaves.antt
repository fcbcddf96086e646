-- What the functions that evaluate nothing else ask and promise.
use Rattle.std.specs.Prelude.{◌≡◌, ◌⊎◌, Bool, true, false, cond, List, ℕ, ◌≤◌, ◌<◌, eqb, Some, None}
use Rattle.std.specs.declared.option.Option.{Option as Maybe}
use Rattle.std.proofs.Math.Option.{Option, none as absent, some}
use Rattle.values.specs.Value.{Value}
use Rattle.values.specs.Place.{At}
use Rattle.operators.specs.Answer.{Answer, as_boolean}
use Rattle.operators.specs.Sets.{range_of}
use Rattle.operators.specs.Maps.{apply_to}
use Rattle.operators.specs.Operators.{binary}
use Rattle.operations.specs.Numbers.{Binary}
use Rattle.evaluator.specs.Contract.{operator_at}

-- ---- tests

abbrev pub read_as : Maybe Bool → Option Bool
read_as (Some b) = some b
read_as None = absent

abbrev pub Tells : List ℕ → ℕ → Maybe Bool → Type 0
Tells s at t = (v : Value) → At s at v → as_boolean v ≡ read_as t

-- ---- what takes both operands: a strict binary operator, a set range, an application

abbrev pub of_two : ℕ → ℕ → Value → Value → Answer
of_two k op = cond (eqb k 5) (binary op) (cond (eqb k 11) range_of apply_to)

abbrev pub OfTwo : ℕ → ℕ → Type 0
OfTwo k op = ((k ≡ 5) × Binary op) ⊎ ((k ≡ 11) ⊎ (k ≡ 21))

-- Whether the operator is and, or or =>, where the record is of kind 5.
pub record Connects (k op : ℕ) (b : Bool) : Type 0 where
  pub yes : b ≡ true → (k ≡ 5) × (op ≤ 3)
  pub no : b ≡ false → k ≡ 5 → 3 < op

-- What takes both operands, told by the record's kind and its operator.
abbrev pub Strict : List ℕ → ℕ → ℕ → ℕ → Type 0
Strict table r k op = ((k ≡ 5) × (op ≡ operator_at table r) × (3 < op)) ⊎ ((k ≡ 11) ⊎ (k ≡ 21))
