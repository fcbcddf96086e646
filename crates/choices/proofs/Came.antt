-- How the code's runs are put together, each as a tree that came to an end; and what a whole run tells of its list.
use mathlib.Core.Path.{◌≡◌, refl, sym, ap, ◌∙◌}
use mathlib.Core.Bool.{Bool, true, false}
use mathlib.Core.Option.{some}
use mathlib.Core.List.{List, []}
use Prim.Native.Nat.{ℕ, ◌≤◌, ◌<◌}
use borrow.Author.Tests.{lt-ltb, le-ltb}
use Rattle.std.specs.Prelude.{Ok, Err}
use Rattle.prelude.specs.declared.Refusal.{Refusal}
use Rattle.prelude.specs.Refusals.{number_of}
use Rattle.choices.specs.State.{Choices, Picked, Advanced, View, view, fresh, Invariant, Made, Chosen, Moved}
use Rattle.choices.specs.Tree.{Tree, give, stop, choose, bind, Full, Numbered, Final, result, refuses, final, run}
use Rattle.choices.specs.Lists.{Complete}
use Rattle.choices.specs.Paths.{first_list, next_list}
use Rattle.choices.specs.Runs.{run_on, ways_reported, settle, ended_by, Came}
use Rattle.choices.specs.Ran.{ran_as, at_end}
use Rattle.choices.proofs.Ran.{state_of}
use Rattle.choices.proofs.Runs.{bind_ran, bind_refused, chosen_runs, state_as, run_final, run_complete}
use Rattle.choices.proofs.States.{unless_none, unless_some, Holds, end_holds}
use Rattle.choices.proofs.Stepping.{first_run, step_more}

-- ---- the parts of a run

pub came_give : {A : Type 0} (a : A) {c : Choices} → Invariant c → Came (give a) c (result a) c
came_give a s = record { right = refl; sound = s }

pub came_stop : {A : Type 0} (r p : ℕ) {c : Choices} → Invariant c → Came {A = A} (stop r p) c (refuses r p 0) c
came_stop r p s = record { right = refl; sound = s }

-- A choice that was made.
module _ {A : Type 0} (p : ℕ) (ways : ℕ → Tree A) {c : Choices} {n : ℕ} {k : Picked} (h : Chosen c n k) where
  pub came_taken : {i : ℕ} {f : Final A} {d : Choices} → k.answer ≡ Ok i → Came (ways i) k.state f d → Came (choose p n ways) c f d
  came_taken {i} e w = record { right = chosen_runs p ways c n k h (Ok i) e ∙ w.right; sound = w.sound }

  pub came_refused : {r : Refusal} → k.answer ≡ Err r → Came (choose p n ways) c (refuses (number_of r) p (ways_reported r n)) k.state
  came_refused {r} e = record { right = chosen_runs p ways c n k h (Err r) e; sound = h.sound }

-- One run after another, and one that ends at a refusal.
module _ {A B : Type 0} (t : Tree A) (g : A → Tree B) where
  pub came_then : {a : A} {f : Final B} {c d e : Choices} → Came t c (result a) d → Came (g a) d f e → Came (bind t g) c f e
  came_then {a} {f} {c} {d} h k = record { right = bind_ran t g (view c) (view d) a h.right ∙ k.right; sound = k.sound }

  pub came_off : {r p n : ℕ} {c d : Choices} → Came t c (refuses r p n) d → Came (bind t g) c (refuses r p n) d
  came_off {r} {p} {n} {c} {d} h = record { right = bind_refused t g (view c) (view d) r p n h.right; sound = h.sound }

-- ---- a whole run

state_ended : {A : Type 0} (f : Final A) (v : View) → state_of (ended_by f v) ≡ v
state_ended (result a) v = refl
state_ended (refuses r p n) v = refl

-- What it finally answers, by the tests that tell it.
module _ {A : Type 0} (last : ℕ) (d : Choices) (s : Invariant d) where
  pub settled_value : (a : A) → d.len ≤ d.used → settle last (ended_by (result a) (view d)) ≡ result a
  settled_value a h = unless_none d s last (result a) h

  pub settled_value_left : (a : A) → d.used < d.len → settle last (ended_by (result a) (view d)) ≡ refuses 34 last 0
  settled_value_left a h = unless_some d s last (result a) h

  pub settled_refusal : (r p n : ℕ) → r < 32 → d.len ≤ d.used → settle {A = A} last (ended_by (refuses r p n) (view d)) ≡ refuses r p n
  settled_refusal r p n b h = rw (lt-ltb r 32 b) (unless_none d s p (refuses r p n) h)

  pub settled_refusal_left : (r p n : ℕ) → r < 32 → d.used < d.len → settle {A = A} last (ended_by (refuses r p n) (view d)) ≡ refuses 34 p 0
  settled_refusal_left r p n b h = rw (lt-ltb r 32 b) (unless_some d s p (refuses r p n) h)

  pub settled_list : (r p n : ℕ) → 32 ≤ r → settle {A = A} last (ended_by (refuses r p n) (view d)) ≡ refuses r p n
  settled_list r p n b = rw (le-ltb r 32 b)

module _ {A : Type 0} (t : Tree A) {f : Final A} {c d : Choices} (h : Came t c f d) where
  -- Under a given list it finally answers as the list's run does.
  pub came_final : (l : List ℕ) (last : ℕ) → Numbered t → Made l false c → settle last (ended_by f (view d)) ≡ final last (run t l)
  came_final l last m k = ap (settle last) (sym h.right ∙ ap (run_on t) k.viewed) ∙ run_final t l last m

  -- a run that is known to end there leaves the state there
  ended_run : (v : View) (m : List ℕ) (g : Bool) → view c ≡ v → run_on t v ≡ ran_as (run t m) (at_end t m g) → view d ≡ at_end t m g
  ended_run v m g e q = sym (state_ended f (view d)) ∙ ap state_of (sym h.right ∙ ap (run_on t) e ∙ q) ∙ state_as (run t m) (at_end t m g)

  -- A complete list leaves the state at its end.
  pub came_complete : (l : List ℕ) → Made l false c → Complete t l → view d ≡ at_end t l false
  came_complete l k w = ended_run (fresh l false) l false k.viewed (run_complete t l w)

  -- A growing run from nothing leaves the first list.
  pub came_first : Full t → Made [] true c → view d ≡ at_end t (first_list t) true
  came_first u k = ended_run (fresh [] true) (first_list t) true k.viewed (first_run t u)

-- What a run that leaves the state at the end of a list leaves in it.
pub came_holds : {A : Type 0} (t : Tree A) (l : List ℕ) (g : Bool) {f : Final A} {c d : Choices} → Came t c f d → view d ≡ at_end t l g → Holds d l
came_holds t l g {d = d} h e = end_holds t l g d h.sound e

-- `advance` from there, and a growing run, leave the next list.
pub came_next : {A : Type 0} (t : Tree A) (l : List ℕ) (g : Bool) {f : Final A} {d e : Choices} {r : Advanced} → Full t → Complete t l → view d ≡ at_end t l g → Moved d r → r.more ≡ true → Came t r.state f e → (m : List ℕ) × (next_list t l ≡ some m) × Complete t m × (view e ≡ at_end t m true)
came_next t l g {f = f} {d = d} {e = e} {r = r} u w v k q h =
    let s = step_more t l g d r v k u w q in
    (s.0, s.1.next, s.1.complete, ended_run t h (view r.state) s.0 true refl s.1.runs)
