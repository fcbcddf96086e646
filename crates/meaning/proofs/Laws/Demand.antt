-- Demand 3 holds of every accepted table.
use Rattle.std.specs.Prelude.{◌≡◌, List, ℕ}
use Rattle.std.specs.Prelude.{Ok}
use Rattle.tables.specs.Check.{check}
use Rattle.meaning.specs.Demand.{Demand3}
use Rattle.meaning.proofs.Laws.Calls.{refused, calls_held, calls_untouched, refusals, first_answers, step_from, calls_step}
use Rattle.meaning.proofs.Laws.Evaluating.{complete_number}
use Rattle.meaning.proofs.Laws.Outcomes.{outcomes}
use Rattle.meaning.proofs.Laws.NoBinding.{no_binding}

pub demand3 : (table : List ℕ) (n : ℕ) → check table ≡ Ok n → Demand3 table
demand3 table n ok =
    record {
      held = calls_held table n ok;
      untouched = calls_untouched table n ok;
      refused = λ w c. refused table c w;
      refusals = refusals table n ok;
      first_granted = first_answers table n ok;
      steps_on = step_from table n ok;
      step_answers = calls_step table n ok;
      complete_answers = λ scratch buffer enough room l bytes within. complete_number table n ok scratch buffer enough room l within;
      outcomes = outcomes table n ok;
      no_binding = no_binding table n ok;
    }
