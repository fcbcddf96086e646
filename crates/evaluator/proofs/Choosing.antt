-- 12, 13: a choice among bindings, and the body under the one chosen.
use mathlib.Core.Path.{◌≡◌, refl, sym, ap, subst, ◌∙◌}
use mathlib.Core.Bool.{Bool, true, false, cond}
use mathlib.Core.List.{List, [], ◌∷◌}
use Prim.Native.Nat.{ℕ, ◌<◌}
use native.Mathlib.Omega.{arith}
use lib.Dec.{ltb, leb}
use lib.ListN.{length, get_or}
use Rattle.prelude.proofs.Absurd.{impossible}
use Rattle.std.specs.Prelude.{Ok, Err}
use Rattle.prelude.specs.declared.Refusal.{Refusal}
use Rattle.prelude.specs.declared.Refusal.TheVariants.{TooManyChoices, EntryTooHigh}
use Rattle.prelude.specs.Refusals.{number_of}
use Rattle.choices.specs.State.{Choices, Picked, view, answer_left, Chosen}
use Rattle.choices.specs.Tree.{Tree, give, stop, choose, bind, most_choices, Final, refuses}
use Rattle.choices.specs.Runs.{Came, ways_reported}
use Rattle.choices.proofs.Came.{came_taken, came_refused}
use Rattle.patterns.specs.Binding.{Binding, nothing}
use Rattle.meaning.specs.Meaning.{chosen_binding as chosen, matched, satisfied}
use Rattle.lists.specs.Choosing.{first, due_in}

-- ---- what is chosen

pick_due : (b : Bool) (c i : ℕ) → cond b (Ok c) (Err EntryTooHigh) ≡ Ok i → i ≡ c
pick_due true c i h = cc
pick_due false c i h = impossible cc

left_due : (l : List ℕ) (g : Bool) (n i : ℕ) → answer_left l g n ≡ Ok i → i ≡ first l
left_due [] true n i e = cc
left_due [] false n i e = impossible cc
left_due (c ∷ l) g n i e = pick_due (ltb c n) c i e

answer_due : (b : Bool) (l : List ℕ) (g : Bool) (n i : ℕ) → cond b (Err TooManyChoices) (answer_left l g n) ≡ Ok i → i ≡ first l
answer_due true l g n i e = impossible cc
answer_due false l g n i e = left_due l g n i e

-- A choice takes the entry that was due.
pub chosen_due : (c : Choices) (n i : ℕ) (k : Picked) → Chosen c n k → k.answer ≡ Ok i → i ≡ due_in c
chosen_due c n i k h e = answer_due (leb most_choices (length (view c).past)) (view c).left (view c).grow n i (sym h.answered ∙ e)

-- ---- the choice made, by its answer

module _ {A : Type 0} (r : ℕ) (bs : List Binding) (body : Binding → Tree A) {c : Choices} {n : ℕ} (count : n ≡ length bs) {k : Picked} (h : Chosen c n k) where
  abbrev ways : ℕ → Tree A
  ways i = body (get_or bs i nothing)

  at_count : bind (chosen r bs) body ≡ choose r n ways
  at_count = ap (λ (m : ℕ). choose r m ways) (sym count)

  as_count : {f : Final A} {d : Choices} → Came (choose r n ways) c f d → Came (bind (chosen r bs) body) c f d
  as_count {f} {d} w = subst (λ (t : Tree A). Came t c f d) (sym at_count) w

  pub choice_taken : {i : ℕ} {f : Final A} {d : Choices} → k.answer ≡ Ok i → Came (body (get_or bs i nothing)) k.state f d → Came (bind (chosen r bs) body) c f d
  choice_taken e w = as_count (came_taken r ways h e w)

  pub choice_off : {x : Refusal} → k.answer ≡ Err x → Came (bind (chosen r bs) body) c (refuses (number_of x) r (ways_reported x n)) k.state
  choice_off e = as_count (came_refused r ways h e)

-- ---- let

module _ (r : ℕ) where
  -- No binding: 23.
  pub matched_none : (is_loose : Bool) (bs : List Binding) → length bs ≡ 0 → matched r is_loose bs ≡ stop 23 r
  matched_none is_loose [] e = refl
  matched_none is_loose (b ∷ bs) e = absurd (omega arith)

  -- A loose let chooses among all bindings.
  pub matched_loose : (is_loose : Bool) (bs : List Binding) → is_loose ≡ true → 0 < length bs → matched r is_loose bs ≡ chosen r bs
  matched_loose true [] e l = absurd (omega arith)
  matched_loose true (b ∷ bs) e l = refl
  matched_loose false bs e l = impossible cc

  -- Another takes the first.
  pub matched_plain : (is_loose : Bool) (bs : List Binding) → is_loose ≡ false → 0 < length bs → matched r is_loose bs ≡ give (get_or bs 0 nothing)
  matched_plain true bs e l = impossible cc
  matched_plain false [] e l = absurd (omega arith)
  matched_plain false (b ∷ bs) e l = refl

  -- ---- let-be

  -- No satisfying binding: 24.
  pub satisfied_none : (sat : List Binding) → length sat ≡ 0 → satisfied r sat ≡ stop 24 r
  satisfied_none [] e = refl
  satisfied_none (b ∷ sat) e = absurd (omega arith)

  pub satisfied_some : (sat : List Binding) → 0 < length sat → satisfied r sat ≡ chosen r sat
  satisfied_some [] l = absurd (omega arith)
  satisfied_some (b ∷ sat) l = refl
