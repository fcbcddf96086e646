-- The two meanings agree: the leaves of a record's tree have exactly the outcomes of its loose meaning, in every sheet and every state.
use Rattle.std.specs.Prelude.{◌↔◌, ℕ}
use Rattle.choices.specs.Tree.{Gives}
use Rattle.choices.specs.Outcome.{Outcome}
use Rattle.values.specs.Value.{Value}
use Rattle.meaning.specs.State.{State}
use Rattle.meaning.specs.Sheet.{Sheet}
use Rattle.meaning.specs.Meaning.{meaning}
use Rattle.meaning.specs.Loose.{loose_of, loose_meaning}
use Rattle.meaning.proofs.Laws.Equation.{Downward}
use Rattle.meaning.proofs.Laws.Agreement as laws

pub agreement : (s : Sheet) (r : ℕ) (ρ : State) (o : Outcome Value) → Gives (meaning s r ρ) o ↔ loose_meaning s r ρ o
agreement = laws.agreement

-- Where records name only lower ones, the loose meaning of a record is what it says over the loose meanings of the records that it names. No
-- bound is in it.
pub loose_meaning_is : (s : Sheet) → Downward s → (r : ℕ) (ρ : State) (o : Outcome Value) → loose_meaning s r ρ o ↔ loose_of s.pattern (λ a σ. loose_meaning s a σ) r (s.node r) ρ o
loose_meaning_is = laws.loose_meaning_is
