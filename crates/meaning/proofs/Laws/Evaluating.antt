-- Evaluating an accepted table under a list, with long enough buffers: what a complete list answers, and that the answer's number tells whether it
-- is complete.
use Rattle.std.specs.Prelude.{◌≡◌, refl, ◌↔◌, List, [], ◌∷◌, ℕ, ◌≤◌, length}
use Rattle.std.proofs.Common.{sym, ap, ◌∙◌, subst, inl, inr, ⊎_elim, arith}
use Rattle.prelude.proofs.Absurd.{impossible}
use Rattle.choices.specs.Tree.{Run, gave, stopped, short, beyond, run, Final, result, refuses, final, most_choices}
use Rattle.choices.specs.Lists.{Ended, Complete, run_outcome}
use Rattle.choices.proofs.Cut.{complete_length}
use Rattle.choices.proofs.Walk.{final_of, complete_final, stopped_number, Settles, complete_whole}
use Rattle.values.specs.Value.{Value, value_limit as largest}
use Rattle.std.specs.Prelude.{Ok}
use Rattle.tables.specs.Check.{check}
use Rattle.meaning.specs.State.{unbound}
use Rattle.meaning.specs.Read.{sheet}
use Rattle.meaning.specs.Answer.{final_number, number_part}
use Rattle.meaning.specs.Service.{scratch_bytes, last, tree, runs}
use Rattle.meaning.specs.Lent.{after_evaluate, evaluate_call}
use Rattle.meaning.specs.Demand.{CompleteNumber}
use Rattle.meaning.proofs.Laws.Sure.{Sure, sure_meaning}
use Rattle.meaning.proofs.Laws.Services.{evaluates_run}
use Rattle.meaning.proofs.Laws.ReadBack.{evaluate_read_back}

settles_number : {A : Type 0} (f : Final A) → CompleteNumber (final_number f) → Settles f
settles_number (result a) h = tt
settles_number (refuses n p k) h = ⊎_elim (λ e. omega arith) (λ b. omega (arith, b.1)) h

module _ (table : List ℕ) (n : ℕ) (ok : check table ≡ Ok n) (scratch buffer : List ℕ) (enough : scratch_bytes ≤ length scratch) (room : largest ≤ length buffer) where
  -- A complete list answers the outcome of its run.
  pub evaluating : (l : List ℕ) → Complete (tree table) l → evaluate_call table l scratch buffer ≡ after_evaluate (final_of (run_outcome (run (tree table) l))) scratch buffer
  evaluating l c =
      ap (λ f. after_evaluate f scratch buffer)
      (evaluates_run table (length scratch) enough n ok (length buffer) l room (complete_length (tree table) l c) ∙ complete_final (tree table) l (last (sheet table)) c)

  module _ (l : List ℕ) (within : length l ≤ most_choices) where
    sure : Sure (tree table)
    sure = sure_meaning (sheet table) (last (sheet table)) unbound

    number_is : number_part (evaluate_call table l scratch buffer).answer ≡ final_number (runs table l)
    number_is =
        (evaluate_read_back (length scratch) table (length buffer) l).number_back
        ∙ ap final_number (evaluates_run table (length scratch) enough n ok (length buffer) l room within)

    ended_number : (x : Run Value) → run (tree table) l ≡ x → Ended x → CompleteNumber (final_number (final (last (sheet table)) x))
    ended_number (gave v k []) e h = inl refl
    ended_number (gave v k (c ∷ m)) e h = impossible cc
    ended_number (stopped i p []) e h = inr (stopped_number (tree table) most_choices l i p [] sure.numbered e)
    ended_number (stopped i p (c ∷ m)) e h = impossible cc
    ended_number (short p i) e h = absurd h
    ended_number (beyond p i m) e h = absurd h

    -- THEOREM: a list of at most 64 entries is complete exactly when evaluating under it answers 0 or 20 to 31.
    pub complete_number : Complete (tree table) l ↔ CompleteNumber (number_part (evaluate_call table l scratch buffer).answer)
    complete_number = (
      λ c. subst CompleteNumber (sym number_is) (ended_number (run (tree table) l) refl c),
      λ h. (complete_whole (tree table) l (last (sheet table)) sure.numbered).1 (settles_number (runs table l) (subst CompleteNumber number_is h)),
    )
