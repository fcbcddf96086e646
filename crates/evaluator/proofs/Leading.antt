-- How the run of a tree goes on: what is left comes to what the whole comes to.
use mathlib.Core.Path.{◌≡◌, ap, ◌∙◌}
use Prim.Native.Nat.{ℕ}
use Rattle.choices.specs.State.{Choices, view, Invariant}
use Rattle.choices.specs.Tree.{Tree, bind, Final, result, refuses}
use Rattle.choices.specs.Runs.{run_on, Came}
use Rattle.choices.proofs.Runs.{bind_ran}
use Rattle.choices.proofs.Came.{came_off}

-- The run of the whole from the state c goes on as the run of what is left from the state d.
pub record Leads {A : Type 0} (whole : Tree A) (c : Choices) (left : Tree A) (d : Choices) : Type 0 where
  pub sound : Invariant d
  pub same : run_on whole (view c) ≡ run_on left (view d)

pub leads_start : {A : Type 0} {t u : Tree A} {c : Choices} → Invariant c → t ≡ u → Leads t c u c
leads_start {c = c} s e = record { sound = s; same = ap (λ x. run_on x (view c)) e }

module _ {A : Type 0} {whole : Tree A} {c : Choices} where
  pub leads_as : {t u : Tree A} {d : Choices} → t ≡ u → Leads whole c t d → Leads whole c u d
  leads_as {d = d} e l = record { sound = l.sound; same = l.same ∙ ap (λ x. run_on x (view d)) e }

  -- What is left came to an end, and so did the whole.
  pub leads_came : {t : Tree A} {d e : Choices} {f : Final A} → Leads whole c t d → Came t d f e → Came whole c f e
  leads_came l w = record { right = l.same ∙ w.right; sound = w.sound }

  -- A part of what is left came to a value, or to a refusal.
  module _ {B : Type 0} (t : Tree B) (g : B → Tree A) {d e : Choices} (l : Leads whole c (bind t g) d) where
    pub leads_then : {b : B} → Came t d (result b) e → Leads whole c (g b) e
    leads_then {b} w = record { sound = w.sound; same = l.same ∙ bind_ran t g (view d) (view e) b w.right }

    pub leads_off : {n p k : ℕ} → Came t d (refuses n p k) e → Came whole c (refuses n p k) e
    leads_off w = leads_came l (came_off t g w)
