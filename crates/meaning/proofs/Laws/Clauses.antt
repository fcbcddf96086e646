-- Kind 13 of the loose meaning: document 01's three clauses are its conditions tested one after the other, and then 24 or each of the
-- bindings that make it true.
use Rattle.std.proofs.Math.Path.{◌≡◌, refl, ap, subst}
use Rattle.std.proofs.Common.{sym, ◌∙◌}
use Rattle.std.specs.Prelude.{Bool, ◌⊎◌, ◌↔◌, ℕ}
use Rattle.std.proofs.Math.Bool.{true, false, cond}
use Rattle.std.proofs.Math.Logic.{inl, inr, ⊎_elim}
use mathlib.Core.List.{List, [], ◌∷◌, ◌++◌}
use Rattle.prelude.specs.Membership.{In}
use Rattle.choices.proofs.Trees.{value≢refusal}
use Rattle.choices.specs.Outcome.{Outcome, value, refusal}
use Rattle.values.specs.Value.{Value}
use Rattle.patterns.specs.Binding.{Binding}
use Rattle.meaning.specs.State.{State}
use Rattle.meaning.specs.Loose.{Outcomes, ◌then◌, refuses, under_each, Meanings, holds, satisfying, AllTested, AllFalse, FirstRefusal, body13}

-- What follows the bindings that make the condition true.
abbrev pub chosen_from : ℕ → (Binding → Outcomes Value) → List Binding → Outcomes Value
chosen_from r F [] = refuses 24 r
chosen_from r F (b ∷ bs) = under_each (b ∷ bs) F

tested_more : (test : Binding → Outcomes Bool) (b : Binding) (bs : List Binding) (t : Bool) → test b (value t) → AllTested test bs → AllTested test (b ∷ bs)
tested_more test b bs t h k c i = ⊎_elim (λ e. (t, subst (λ d. test d (value t)) (sym e) h)) (λ j. k c j) i

module _ (Rec : Meanings) (r c : ℕ) (ρ : State) where
  abbrev pub Test : Binding → Outcomes Bool
  Test = holds Rec r c ρ

  abbrev pub Sat : List Binding → Outcomes (List Binding)
  Sat bs = satisfying Rec r c ρ bs

  -- A refusal of the testing is the first among the conditions.
  first_out : (bs : List Binding) (n p : ℕ) → Sat bs (refusal n p) → FirstRefusal Test bs (refusal n p)
  unfolding satisfying
  first_out [] n p e = absurd (value≢refusal (sym e))
  first_out (b ∷ bs) n p (inl (t, h, inl (sat, k, e))) = absurd (value≢refusal (sym e))
  first_out (b ∷ bs) n p (inl (t, h, inr (m, q, k, e))) =
      let f = first_out bs m q k in
      let d : ◌≡◌ {A = Outcome Value} (refusal n p) (refusal m q) = cc in
      record {
        earlier = b ∷ f.earlier;
        binding = f.binding;
        later = f.later;
        number = f.number;
        place = f.place;
        in_order = ap (λ (l : List Binding). b ∷ l) f.in_order;
        tested = tested_more Test b f.earlier t h f.tested;
        refused_there = f.refused_there;
        outcome = d ∙ f.outcome;
      }
  first_out (b ∷ bs) n p (inr (m, q, k, e)) =
      record { earlier = []; binding = b; later = bs; number = m; place = q; in_order = refl; tested = λ d i. absurd i; refused_there = k; outcome = cc }

  first_in : (bs earlier : List Binding) (b : Binding) (later : List Binding) (n p : ℕ) → bs ≡ earlier ++ b ∷ later → AllTested Test earlier → Test b (refusal n p) → Sat bs (refusal n p)
  unfolding satisfying
  first_in bs [] b later n p e h k = subst (λ (l : List Binding). Sat l (refusal n p)) (sym e) (inr (n, p, k, refl))
  first_in bs (d ∷ earlier) b later n p e h k =
      let (t, y) = h d (inl refl) in
      subst (λ (l : List Binding). Sat l (refusal n p)) (sym e)
      (inl (t, y, inr (n, p, first_in (earlier ++ b ∷ later) earlier b later n p refl (λ x i. h x (inr i)) k, refl)))

  -- The bindings that the testing gives.
  pub record Found (bs sat : List Binding) : Type 0 where
    pub all : AllTested Test bs
    pub sound : (β : Binding) → In β sat → In β bs × Test β (value true)
    pub rest : (β : Binding) → In β bs → In β sat ⊎ Test β (value false)

  pub found_out : (bs sat : List Binding) → Sat bs (value sat) → Found bs sat
  unfolding satisfying
  found_out [] sat e =
      let d : sat ≡ [] = cc in
      record { all = λ β i. absurd i; sound = λ β i. absurd (subst (λ (l : List Binding). In β l) d i); rest = λ β i. absurd i }
  found_out (b ∷ bs) sat (inr (n, p, h, e)) = absurd (value≢refusal e)
  found_out (b ∷ bs) sat (inl (t, h, inr (n, p, k, e))) = absurd (value≢refusal e)
  found_out (b ∷ bs) sat (inl (t, h, inl (rest, k, e))) = let d : sat ≡ cond t (b ∷ rest) rest = cc in subst (Found (b ∷ bs)) (sym d) (go t h (found_out bs rest k))
    where
      go : (t : Bool) → Test b (value t) → Found bs rest → Found (b ∷ bs) (cond t (b ∷ rest) rest)
      go true h f =
          record {
            all = tested_more Test b bs true h f.all;
            sound = λ β i. ⊎_elim (λ e. (inl e, subst (λ d. Test d (value true)) (sym e) h)) (λ j. (inr (f.sound β j).0, (f.sound β j).1)) i;
            rest = λ β i. ⊎_elim (λ e. inl (inl e)) (λ j. ⊎_elim (λ k. inl (inr k)) (λ k. inr k) (f.rest β j)) i;
          }
      go false h f =
          record {
            all = tested_more Test b bs false h f.all;
            sound = λ β i. (inr (f.sound β i).0, (f.sound β i).1);
            rest = λ β i. ⊎_elim (λ e. inr (subst (λ d. Test d (value false)) (sym e) h)) (λ j. f.rest β j) i;
          }

  -- All are tested, with these outcomes; then the testing gives something.
  pub none_in : (bs : List Binding) → AllFalse Test bs → Sat bs (value [])
  unfolding satisfying
  none_in [] h = refl
  none_in (b ∷ bs) h = inl (false, h b (inl refl), inl ([], none_in bs (λ β i. h β (inr i)), refl))

  all_in : (bs : List Binding) → AllTested Test bs → (sat : List Binding) × Sat bs (value sat)
  unfolding satisfying
  all_in [] h = ([], refl)
  all_in (b ∷ bs) h =
      let (t, y) = h b (inl refl) in
      let (sat, k) = all_in bs (λ β i. h β (inr i)) in
      (cond t (b ∷ sat) sat, inl (t, y, inl (sat, k, refl)))

  pub true_in : (bs : List Binding) (β : Binding) → AllTested Test bs → In β bs → Test β (value true) → (sat : List Binding) × Sat bs (value sat) × In β sat
  unfolding satisfying
  true_in [] β h i k = absurd i
  true_in (b ∷ bs) β h (inl e) k =
      let (sat, s) = all_in bs (λ d j. h d (inr j)) in
      (b ∷ sat, inl (true, subst (λ d. Test d (value true)) e k, inl (sat, s, refl)), inl e)
  true_in (b ∷ bs) β h (inr i) k =
      let (t, y) = h b (inl refl) in
      let (sat, s, j) = true_in bs β (λ d l. h d (inr l)) i k in
      (cond t (b ∷ sat) sat, inl (t, y, inl (sat, s, refl)), kept t sat j)
    where
      kept : (t : Bool) (sat : List Binding) → In β sat → In β (cond t (b ∷ sat) sat)
      kept true sat j = inr j
      kept false sat j = j

  module _ (F : Binding → Outcomes Value) where
    chosen_out : (bs sat : List Binding) (o : Outcome Value) → Found bs sat → chosen_from r F sat o → body13 r Test F bs o
    chosen_out bs [] o f e = inr (inl (λ β i. ⊎_elim (λ j. absurd j) (λ k. k) (f.rest β i), e))
    chosen_out bs (d ∷ sat) o f (β, i, y) = inr (inr (f.all, record { binding = β; among = (f.sound β i).0; true_there = (f.sound β i).1; outcome = y }))

    chosen_in : (sat : List Binding) (β : Binding) (o : Outcome Value) → In β sat → F β o → chosen_from r F sat o
    chosen_in [] β o i y = absurd i
    chosen_in (d ∷ sat) β o i y = (β, i, y)

    -- The three clauses of kind 13 are the testing of all bindings in order, and then 24 or a choice.
    pub clauses_of_13 : (bs : List Binding) (o : Outcome Value) → (Sat bs then (λ sat. chosen_from r F sat)) o ↔ body13 r Test F bs o
    clauses_of_13 bs o = (out, into)
      where
        out : (Sat bs then (λ sat. chosen_from r F sat)) o → body13 r Test F bs o
        out (inl (sat, s, y)) = chosen_out bs sat o (found_out bs sat s) y
        out (inr (n, p, s, e)) = inl (subst (FirstRefusal Test bs) (sym e) (first_out bs n p s))

        into : body13 r Test F bs o → (Sat bs then (λ sat. chosen_from r F sat)) o
        into (inl f) = inr (f.number, f.place, first_in bs f.earlier f.binding f.later f.number f.place f.in_order f.tested f.refused_there, f.outcome)
        into (inr (inl (h, e))) = inl ([], none_in bs h, e)
        into (inr (inr (h, u))) = let (sat, s, i) = true_in bs u.binding h u.among u.true_there in inl (sat, s, chosen_in sat u.binding o i u.outcome)
