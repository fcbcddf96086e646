-- The first list and the step, as runs on the state: a growing run from nothing; and a run of a complete list, `advance`, a growing run.
use mathlib.Core.Path.{◌≡◌, sym, ap, ◌∙◌}
use mathlib.Core.Bool.{Bool, true, false}
use mathlib.Core.Option.{none, some}
use mathlib.Core.List.{List, []}
use Prim.Native.Nat.{ℕ}
use Rattle.choices.specs.State.{Choices, Advanced, View, view, fresh, maybe, Moved}
use Rattle.choices.specs.Tree.{Tree, most_choices, Full, run}
use Rattle.choices.specs.Lists.{Complete}
use Rattle.choices.specs.Paths.{counts, extend, raise, on_some, cut_after, first_list, next_list}
use Rattle.choices.specs.Runs.{run_on}
use Rattle.choices.specs.Ran.{ran_as, at_end}
use Rattle.choices.proofs.Ran.{state_of}
use Rattle.choices.proofs.Paths.{prefix_nil, raise_prefix}
use Rattle.choices.proofs.Cut.{complete_leaf}
use Rattle.choices.proofs.Runs.{state_as, run_grow}

-- A growing run from nothing runs the first list, and leaves the state at its end.
pub first_run : {A : Type 0} (t : Tree A) → Full t → run_on t (fresh [] true) ≡ ran_as (run t (first_list t)) (at_end t (first_list t) true)
first_run t f = (run_grow t [] f (prefix_nil (cut_after most_choices t))).1

-- m is the list after l, and a run on v runs it and leaves the state at its end.
pub record Follows {A : Type 0} (t : Tree A) (l m : List ℕ) (v : View) : Type 0 where
  pub next : next_list t l ≡ some m
  pub complete : Complete t m
  pub runs : run_on t v ≡ ran_as (run t m) (at_end t m true)
  pub state : state_of (run_on t v) ≡ at_end t m true

module _ {A : Type 0} (t : Tree A) (l : List ℕ) (g : Bool) (c : Choices) (r : Advanced) (seen : view c ≡ at_end t l g) (k : Moved c r) where
  raised : raise l (counts (cut_after most_choices t) l) ≡ maybe r.more (view r.state).left
  raised = ap (λ (v : View). raise v.past v.met) (sym seen) ∙ k.moved

  -- From the end of a complete list `advance` leads to the next, which a growing run runs.
  pub step_more : Full t → Complete t l → r.more ≡ true → (m : List ℕ) × Follows t l m (view r.state)
  step_more f h q =
      let from = (view r.state).left in
      let e : raise l (counts (cut_after most_choices t) l) ≡ some from = raised ∙ ap (λ (b : Bool). maybe b from) q in
      let w = run_grow t from f (raise_prefix (cut_after most_choices t) l from (complete_leaf t l h) e) in
      let m = extend (cut_after most_choices t) from in
      let runs = ap (run_on t) k.viewed ∙ w.1 in (
        m,
        record {
          next = ap (on_some (extend (cut_after most_choices t))) e;
          complete = w.0;
          runs = runs;
          state = ap state_of runs ∙ state_as (run t m) (at_end t m true);
        },
      )

  -- Or it says that there is none.
  pub step-none : r.more ≡ false → next_list t l ≡ none
  step-none q = ap (on_some (extend (cut_after most_choices t))) (raised ∙ ap (λ (b : Bool). maybe b (view r.state).left) q)
