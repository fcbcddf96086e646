-- A tree run on the state of the choices: what a function that chooses has to come to.
use Rattle.std.specs.Prelude.{◌≡◌, ◌||◌, cond, ℕ, eqb, ltb, Ok, Err}
use Rattle.prelude.specs.declared.Refusal.{Refusal}
use Rattle.prelude.specs.Refusals.{number_of}
use Rattle.choices.specs.State.{Answer, Choices, View, view, Invariant, answer_of, afterwards}
use Rattle.choices.specs.Tree.{Tree, give, stop, choose, Final, result, refuses, unless_left}

-- What a run on a state comes to: a value, or a refusal's number, place and count; and the state after it.
pub data Ran (A : Type 0) : Type 0 where
  ran : A → View → Ran A
  refused : ℕ → ℕ → ℕ → View → Ran A

-- The count that a choice among n ways reports with its refusal: n with 32 and 33.
abbrev pub ways_reported : Refusal → ℕ → ℕ
ways_reported r n = cond (eqb (number_of r) 32 || eqb (number_of r) 33) n 0

-- The answer to a choice at the place p among n ways: on with the way taken, or its refusal.
abbrev pub on_answer : {A : Type 0} → Answer → ℕ → ℕ → View → (ℕ → Ran A) → Ran A
on_answer (Ok c) p n v on = on c
on_answer (Err r) p n v on = refused (number_of r) p (ways_reported r n) v

abbrev pub run_on : {A : Type 0} → Tree A → View → Ran A
run_on (give a) v = ran a v
run_on (stop r p) v = refused r p 0 v
run_on (choose p n ways) v = on_answer (answer_of v n) p n v (λ c. run_on (ways c) (afterwards v n (Ok c)))

-- The end f of a run, with the state v after it.
abbrev pub ended_by : {A : Type 0} → Final A → View → Ran A
ended_by (result a) v = ran a v
ended_by (refuses r p n) v = refused r p n v

-- The tree's run from the state c comes to f and leaves the state d.
pub record Came {A : Type 0} (t : Tree A) (c : Choices) (f : Final A) (d : Choices) : Type 0 where
  pub right : run_on t (view c) ≡ ended_by f (view d)
  pub sound : Invariant d

-- What a run on a state finally answers: 34 in place of a value and of the refusals below 32, where entries are left.
abbrev pub settle : {A : Type 0} → ℕ → Ran A → Final A
settle last (ran a v) = unless_left v.left last (result a)
settle last (refused r p n v) = cond (ltb r 32) (unless_left v.left p (refuses r p n)) (refuses r p n)
