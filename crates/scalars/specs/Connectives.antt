-- What the left of and, or and => says: document 01, "Operators 1 to 3 test the left first".
use Rattle.std.specs.Prelude.{◌≡◌, List, ℕ, eqb, cond, Result, Ok, Err}
use Rattle.values.specs.Value.{Value}
use Rattle.values.specs.Place.{At}
use Rattle.operators.specs.Answer.{is, refused}
use Rattle.operators.specs.Booleans.{Connective, and, or, implies, Left, settles, leaves, left}
use Rattle.calling.specs.declared.Tested.{Tested}
use Rattle.calling.specs.declared.Tested.TheVariants.{Settled, Open}
use Rattle.prelude.specs.declared.Refusal.{Refusal}
use Rattle.prelude.specs.Refusals.{number_of}
use Rattle.calling.specs.Scratch.{Kept}

-- 1 and, 2 or, 3 =>
abbrev pub connective : ℕ → Connective
connective n = cond (eqb n 1) and (cond (eqb n 2) or implies)

-- What testing the left answers.
abbrev pub Test : Type 0
Test = Result Tested Refusal

-- What the left says, as the code has it: the answer with its value at base, that the right decides, or the refusal that has its number.
pub data Says (t : List ℕ) (base : ℕ) (r : Test) : Left → Type 0 where
  settled : {v : Value} → r ≡ Ok Settled → At t base v → Says t base r (settles (is v))
  undecided : r ≡ Ok Open → Says t base r leaves
  off : {e : Refusal} {n : ℕ} → r ≡ Err e → n ≡ number_of e → Says t base r (settles (refused n))

pub record TestsLeft (c : Connective) (s t : List ℕ) (base : ℕ) (r : Test) : Type 0 where
  pub kept : Kept s t base
  pub right : (v : Value) → At s base v → Says t base r (left c v)
