-- From one list to the next: the first list is due at the start; the run of the list that is due gives its outcome; the advance makes the next one due.
use mathlib.Core.Path.{◌≡◌, refl, sym, ap, ◌∙◌, subst}
use mathlib.Core.Bool.{true}
use mathlib.Core.List.{List, [], ◌∷◌}
use Prim.Native.Nat.{ℕ, suc, ◌<◌}
use lib.ListN.{length}
use Rattle.prelude.proofs.Absurd.{impossible}
use Rattle.prelude.proofs.Membership.{at_in}
use Rattle.choices.specs.State.{Choices, Advanced, View, view, Made, Moved}
use Rattle.choices.specs.Tree.{Tree, Full, Run, gave, stopped, short, beyond, run, Final, result, refuses, final, most_choices}
use Rattle.choices.specs.Lists.{Ended, Complete}
use Rattle.choices.specs.Paths.{all_lists, cut_after}
use Rattle.choices.specs.Runs.{run_on, ended_by, Came}
use Rattle.choices.specs.Ran.{ran_as, at_end}
use Rattle.choices.proofs.Ran.{state_of}
use Rattle.choices.proofs.Runs.{state_as}
use Rattle.choices.proofs.Steps.{first_path_lem, next-some, next-none}
use Rattle.choices.proofs.Cut.{full_cut, complete_path}
use Rattle.choices.proofs.Stepping.{first_run, step_more, step-none}
use Rattle.choices.proofs.States.{Holds, end_holds}
use Rattle.printing.specs.Due.{list_at, Due, Behind}

module _ {A : Type 0} (t : Tree A) where
  pub complete_at : (k : ℕ) → k < length (all_lists t) → Complete t (list_at t k)
  complete_at k h = (complete_path t (list_at t k)).1 (at_in (all_lists t) k [] h)

  -- ---- the run of the list that is due

  state_ended : (f : Final A) (v : View) → state_of (ended_by f v) ≡ v
  state_ended (result a) v = refl
  state_ended (refuses r p n) v = refl

  -- a run that ended as under a list with no entry left answers what that list finally does
  final_as : (last : ℕ) (r : Run A) (f : Final A) (v w : View) → Ended r → ended_by f v ≡ ran_as r w → f ≡ final last r
  final_as last (gave a k []) (result b) v w h e = let q : b ≡ a = cc in ap result q
  final_as last (gave a k []) (refuses r p n) v w h e = impossible cc
  final_as last (gave a k (c ∷ l)) f v w h e = impossible cc
  final_as last (stopped r p []) (result b) v w h e = impossible cc
  final_as last (stopped r p []) (refuses s q n) v w h e = let x : s ≡ r = cc in let y : q ≡ p = cc in let z : n ≡ 0 = cc in cc
  final_as last (stopped r p (c ∷ l)) f v w h e = impossible cc
  final_as last (short p n) f v w h e = absurd h
  final_as last (beyond p n l) f v w h e = absurd h

  module _ (k : ℕ) (c : Choices) (d : Due t k c) (f : Final A) (e : Choices) (h : Came t c f e) where
    came_as : ended_by f (view e) ≡ ran_as (run t (list_at t k)) (at_end t (list_at t k) true)
    came_as = sym h.right ∙ d.follows

    -- It answers what the list does, leaves the state at its end, and holds the list.
    pub due_final : (last : ℕ) → f ≡ final last (run t (list_at t k))
    due_final last = final_as last (run t (list_at t k)) f (view e) (at_end t (list_at t k) true) (complete_at k d.below) came_as

    pub due_view : view e ≡ at_end t (list_at t k) true
    due_view = sym (state_ended f (view e)) ∙ ap state_of came_as ∙ state_as (run t (list_at t k)) (at_end t (list_at t k) true)

    pub due_holds : Holds e (list_at t k)
    due_holds = end_holds t (list_at t k) true e h.sound due_view

    -- ---- the advance

    module _ (full : Full t) (r : Advanced) (m : Moved e r) where
      next_due : r.more ≡ true → Due t (suc k) r.state
      next_due q =
          let s = step_more t (list_at t k) true e r due_view m full (complete_at k d.below) q in
          let n = next-some (cut_after most_choices t) (full_cut most_choices t full) k s.0 d.below s.1.next in
          record {
            below = n.0;
            sound = m.sound;
            follows = subst (λ (l : List ℕ). run_on t (view r.state) ≡ ran_as (run t l) (at_end t l true)) n.1 s.1.runs;
          }

      pub due_behind : Behind t (suc k) r.more r.state
      due_behind =
          record {
            next = next_due;
            none = λ q. next-none (cut_after most_choices t) (full_cut most_choices t full) k d.below (step-none t (list_at t k) true e r due_view m q);
          }

  -- ---- the start

  pub first_due : Full t → (c : Choices) → Made [] true c → Due t 0 c
  first_due full c m =
      let p = first_path_lem (cut_after most_choices t) (full_cut most_choices t full) in
      record {
        below = p.0;
        sound = m.sound;
        follows =
            ap (run_on t) m.viewed
            ∙ first_run t full
            ∙ ap (λ (l : List ℕ). ran_as (run t l) (at_end t l true)) (sym p.1);
      }
