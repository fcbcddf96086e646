-- What a let and a let-be take from the choices of a run.
use Rattle.std.specs.Prelude.{◌≡◌, Bool, true, false, cond, List, [], ◌∷◌, ℕ, eqb, Ok}
use Rattle.choices.specs.State.{Answer, Choices, view, Chosen}

-- The entry that is next in the list; 0 where none is left.
abbrev pub first : List ℕ → ℕ
first [] = 0
first (c ∷ l) = c

abbrev pub due_in : Choices → ℕ
due_in c = first (view c).left

-- A let-be asks for the binding that it will choose, the others for the first.
abbrev pub due_for : ℕ → Choices → ℕ
due_for k c = cond (eqb k 13) (due_in c) 0

-- A loose let chooses among its n bindings, another takes its only one.
pub data Picks (is_loose : Bool) (c : Choices) (n : ℕ) (a : Answer) (d : Choices) : Type 0 where
  loosely : is_loose ≡ true → Chosen c n (record { answer = a; state = d }) → Picks is_loose c n a d
  plainly : is_loose ≡ false → a ≡ Ok 0 → d ≡ c → Picks is_loose c n a d
