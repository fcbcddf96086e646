-- The building blocks of the loose meaning's binders: when they give a value.
use Rattle.std.specs.Prelude.{◌≡◌, Bool, ◌⊎◌, ◌↔◌, ℕ, eqb, length}
use Rattle.std.proofs.Math.Path.{refl, sym, ap, subst}
use Rattle.std.proofs.Common.{◌∙◌, arith, eqb-true, ne_eqb}
use Rattle.std.proofs.Math.Bool.{true, false, cond}
use Rattle.std.proofs.Math.Option.{Option, none as absent, some}
use Rattle.std.proofs.Math.Logic.{inl, inr, ⊎_elim}
use mathlib.Core.List.{List, [], ◌∷◌, ◌++◌}
use Rattle.prelude.proofs.Absurd.{impossible}
use Rattle.prelude.specs.Membership.{In}
use Rattle.choices.specs.Outcome.{value}
use Rattle.values.specs.Value.{Kind, set, sequence, map, tuple, Value, boolean, integer, quote, collection, Items, none, more}
use Rattle.operators.specs.Answer.{is, Built, built, stopped, closed, as_boolean, as_set}
use Rattle.operators.specs.Enumerations.{build_on}
use Rattle.std.specs.declared.cmp.Ordering.TheVariants.{Less}
use Rattle.patterns.specs.Binding.{Binding, order_bindings}
use Rattle.patterns.proofs.Laws.Ordered.{BeforeEach, Rising, before_in, bindings_asymmetric}
use Rattle.patterns.specs.Pattern.{Pattern, list_of, items_of}
use Rattle.patterns.specs.Binder.{Formed, bound, refused as unformed, formed}
use Rattle.meaning.specs.State.{State, under}
use Rattle.meaning.specs.Loose.{Outcomes, ◌then◌, gives, or_else, built_at, Meanings, is_true, formed_at, bindings_of, holds, satisfying, until_false, until_true, collected, integers_at, integer_bindings, AllTested, AllFalse}
use Rattle.meaning.specs.Kinds.{FirstOf, OnlyOne, Several, Added, Integers}
use Rattle.meaning.proofs.Laws.Clauses.{found_out, none_in, true_in}
use Rattle.choices.proofs.Trees.{value≢refusal}

-- ---- one after the other

-- A value of the second, from a value of the first.
pub then_value : {A B : Type 0} (S : Outcomes A) (F : A → Outcomes B) (b : B) → (S then F) (value b) ↔ ((a : A) × S (value a) × F a (value b))
then_value S F b = (λ h. ⊎_elim (λ w. w) (λ w. absurd (value≢refusal w.3)) h, λ w. inl w)

pub else_value : {A : Type 0} (n r : ℕ) (x : Option A) (a : A) → or_else n r x (value a) ↔ (x ≡ some a)
else_value n r absent a = (λ e. absurd (value≢refusal e), λ e. impossible cc)
else_value n r (some b) a = (λ e. let d : b ≡ a = cc in ap some d, λ e. let d : a ≡ b = cc in ap value d)

pub built_value : (r : ℕ) (b : Built) (vs : Items) → built_at r b (value vs) ↔ (b ≡ built vs)
built_value r (built us) vs = (λ e. let d : us ≡ vs = cc in ap built d, λ e. let d : vs ≡ us = cc in ap value d)
built_value r (stopped n) vs = (λ e. absurd (value≢refusal e), λ e. impossible cc)

formed_value : (r : ℕ) (x : Formed) (bs : List Binding) → formed_at r x (value bs) ↔ (x ≡ bound bs)
formed_value r (bound cs) bs = (λ e. let d : cs ≡ bs = cc in ap bound d, λ e. let d : bs ≡ cs = cc in ap value d)
formed_value r (unformed n) bs = (λ e. absurd (value≢refusal e), λ e. impossible cc)

-- ---- kinds

pub boolean_value : (v : Value) (t : Bool) → (as_boolean v ≡ some t) ↔ (v ≡ boolean t)
boolean_value (boolean b) t = (λ e. let d : b ≡ t = cc in ap boolean d, λ e. let d : b ≡ t = cc in ap some d)
boolean_value (integer z) t = (λ e. impossible cc, λ e. impossible cc)
boolean_value (quote n) t = (λ e. impossible cc, λ e. impossible cc)
boolean_value (collection k vs) t = (λ e. impossible cc, λ e. impossible cc)

pub set_value : (v : Value) (vs : Items) → (as_set v ≡ some vs) ↔ (v ≡ collection set vs)
set_value (boolean b) vs = (λ e. impossible cc, λ e. impossible cc)
set_value (integer z) vs = (λ e. impossible cc, λ e. impossible cc)
set_value (quote n) vs = (λ e. impossible cc, λ e. impossible cc)
set_value (collection set us) vs = (λ e. let d : us ≡ vs = cc in ap (collection set) d, λ e. let d : us ≡ vs = cc in ap some d)
set_value (collection sequence us) vs = (λ e. impossible cc, λ e. impossible cc)
set_value (collection map us) vs = (λ e. impossible cc, λ e. impossible cc)
set_value (collection tuple us) vs = (λ e. impossible cc, λ e. impossible cc)

integers_out : (r : ℕ) (vs ws : Items) → integers_at r vs (value ws) → Integers vs × (ws ≡ vs)
unfolding integers_at
integers_out r none ws e = (tt, let d : ws ≡ none = cc in d)
integers_out r (more v vs) ws (inr (n, p, h, e)) = absurd (value≢refusal e)
integers_out r (more (boolean b) vs) ws (inl (z, h, k)) = absurd (value≢refusal h)
integers_out r (more (quote n) vs) ws (inl (z, h, k)) = absurd (value≢refusal h)
integers_out r (more (collection k us) vs) ws (inl (z, h, g)) = absurd (value≢refusal h)
integers_out r (more (integer y) vs) ws (inl (z, h, inr (n, p, k, e))) = absurd (value≢refusal e)
integers_out r (more (integer y) vs) ws (inl (z, h, inl (us, i, e))) =
    let (j, d) = integers_out r vs us i in
    let f : ws ≡ more (integer y) us = cc in
    (j, f ∙ ap (more (integer y)) d)

integers_in : (r : ℕ) (vs : Items) → Integers vs → integers_at r vs (value vs)
unfolding integers_at
integers_in r none h = refl
integers_in r (more (boolean b) vs) h = absurd h
integers_in r (more (integer y) vs) h = inl (y, refl, inl (vs, integers_in r vs h, refl))
integers_in r (more (quote n) vs) h = absurd h
integers_in r (more (collection k us) vs) h = absurd h

-- ---- a binder's bindings

module _ (rec : Meanings) (r : ℕ) (ρ : State) where
  -- The set operand gives a set of these members.
  pub bindings_value : (p : Pattern) (s : ℕ) (bs : List Binding) → bindings_of rec r p s ρ (value bs) ↔ ((vs : Items) × rec s ρ (value (collection set vs)) × (formed p (list_of vs) ≡ bound bs))
  bindings_value p s bs = (
    λ h.
        let (v, g, k) = (then_value (rec s ρ) (λ v. or_else 20 r (as_set v) then (λ vs. formed_at r (formed p (list_of vs)))) bs).0 h in
        let (vs, i, f) = (then_value (or_else 20 r (as_set v)) (λ vs. formed_at r (formed p (list_of vs))) bs).0 k in
        (vs, subst (λ w. rec s ρ (value w)) ((set_value v vs).0 ((else_value 20 r (as_set v) vs).0 i)) g, (formed_value r (formed p (list_of vs)) bs).0 f),
    λ (vs, g, f). inl (collection set vs, g, inl (vs, refl, (formed_value r (formed p (list_of vs)) bs).1 f)),
  )

  pub integer_bindings_value : (p : Pattern) (s : ℕ) (bs : List Binding) → integer_bindings rec r p s ρ (value bs) ↔ ((vs : Items) × rec s ρ (value (collection set vs)) × Integers vs × (formed p (list_of vs) ≡ bound bs))
  integer_bindings_value p s bs = (
    λ h.
        let (v, g, k) = (then_value (rec s ρ) (λ v. or_else 20 r (as_set v) then (λ vs. integers_at r vs then (λ ws. formed_at r (formed p (list_of ws))))) bs).0 h in
        let (vs, i, f) = (then_value (or_else 20 r (as_set v)) (λ vs. integers_at r vs then (λ ws. formed_at r (formed p (list_of ws)))) bs).0 k in
        let (ws, j, l) = (then_value (integers_at r vs) (λ ws. formed_at r (formed p (list_of ws))) bs).0 f in
        let (all, e) = integers_out r vs ws j in
        (vs, subst (λ w. rec s ρ (value w)) ((set_value v vs).0 ((else_value 20 r (as_set v) vs).0 i)) g, all, ap (λ (us : Items). formed p (list_of us)) (sym e) ∙ (formed_value r (formed p (list_of ws)) bs).0 l),
    λ (vs, g, all, f). inl (collection set vs, g, inl (vs, refl, inl (vs, integers_in r vs all, (formed_value r (formed p (list_of vs)) bs).1 f))),
  )

  -- The condition is so under a binding.
  pub tested_value : (c : ℕ) (b : Binding) (t : Bool) → holds rec r c ρ b (value t) ↔ rec c (under ρ b) (value (boolean t))
  tested_value c b t = (
    λ h.
        let (v, g, k) = (then_value (rec c (under ρ b)) (λ v. is_true r v) t).0 h in
        subst (λ w. rec c (under ρ b) (value w)) ((boolean_value v t).0 ((else_value 20 r (as_boolean v) t).0 k)) g,
    λ g. inl (boolean t, g, refl),
  )

-- ---- the quantifiers

first_more : {A B : Binding → Type 0} {b : Binding} {bs : List Binding} → A b → FirstOf A B bs → FirstOf A B (b ∷ bs)
first_more {A} {B} {b} {bs} a f =
    record {
      earlier = b ∷ f.earlier;
      binding = f.binding;
      later = f.later;
      in_order = ap (λ (l : List Binding). b ∷ l) f.in_order;
      before = λ β i. ⊎_elim (λ e. subst A (sym e) a) (λ j. f.before β j) i;
      there = f.there;
    }

module _ (test : Binding → Outcomes Bool) where
  abbrev Is : Bool → Binding → Type 0
  Is t b = test b (value t)

  false_true : (bs : List Binding) → until_false test bs (value true) → (β : Binding) → In β bs → Is true β
  unfolding until_false
  false_true [] e β i = absurd i
  false_true (b ∷ bs) (inl (true, h, k)) β i = ⊎_elim (λ e. subst (Is true) (sym e) h) (λ j. false_true bs k β j) i
  false_true (b ∷ bs) (inl (false, h, k)) β i = impossible cc
  false_true (b ∷ bs) (inr (n, p, h, e)) β i = absurd (value≢refusal e)

  true_false : (bs : List Binding) → ((β : Binding) → In β bs → Is true β) → until_false test bs (value true)
  unfolding until_false
  true_false [] h = refl
  true_false (b ∷ bs) h = inl (true, h b (inl refl), true_false bs (λ β i. h β (inr i)))

  false_first : (bs : List Binding) → until_false test bs (value false) → FirstOf (Is true) (Is false) bs
  unfolding until_false
  false_first [] e = impossible cc
  false_first (b ∷ bs) (inl (true, h, k)) = first_more h (false_first bs k)
  false_first (b ∷ bs) (inl (false, h, k)) = record { earlier = []; binding = b; later = bs; in_order = refl; before = λ β i. absurd i; there = h }
  false_first (b ∷ bs) (inr (n, p, h, e)) = absurd (value≢refusal e)

  first_false : (earlier : List Binding) (b : Binding) (later : List Binding) → ((β : Binding) → In β earlier → Is true β) → Is false b → until_false test (earlier ++ b ∷ later) (value false)
  unfolding until_false
  first_false [] b later h k = inl (false, k, refl)
  first_false (d ∷ earlier) b later h k = inl (true, h d (inl refl), first_false earlier b later (λ β i. h β (inr i)) k)

  -- forall
  pub until_false_true : (bs : List Binding) → until_false test bs (value true) ↔ ((β : Binding) → In β bs → Is true β)
  until_false_true bs = (false_true bs, true_false bs)

  pub until_false_false : (bs : List Binding) → until_false test bs (value false) ↔ FirstOf (Is true) (Is false) bs
  until_false_false bs = (
    false_first bs,
    λ f. subst (λ (l : List Binding). until_false test l (value false)) (sym f.in_order) (first_false f.earlier f.binding f.later f.before f.there),
  )

  true_false_out : (bs : List Binding) → until_true test bs (value false) → (β : Binding) → In β bs → Is false β
  unfolding until_true
  true_false_out [] e β i = absurd i
  true_false_out (b ∷ bs) (inl (false, h, k)) β i = ⊎_elim (λ e. subst (Is false) (sym e) h) (λ j. true_false_out bs k β j) i
  true_false_out (b ∷ bs) (inl (true, h, k)) β i = impossible cc
  true_false_out (b ∷ bs) (inr (n, p, h, e)) β i = absurd (value≢refusal e)

  true_false_in : (bs : List Binding) → ((β : Binding) → In β bs → Is false β) → until_true test bs (value false)
  unfolding until_true
  true_false_in [] h = refl
  true_false_in (b ∷ bs) h = inl (false, h b (inl refl), true_false_in bs (λ β i. h β (inr i)))

  true_first : (bs : List Binding) → until_true test bs (value true) → FirstOf (Is false) (Is true) bs
  unfolding until_true
  true_first [] e = impossible cc
  true_first (b ∷ bs) (inl (false, h, k)) = first_more h (true_first bs k)
  true_first (b ∷ bs) (inl (true, h, k)) = record { earlier = []; binding = b; later = bs; in_order = refl; before = λ β i. absurd i; there = h }
  true_first (b ∷ bs) (inr (n, p, h, e)) = absurd (value≢refusal e)

  first_true : (earlier : List Binding) (b : Binding) (later : List Binding) → ((β : Binding) → In β earlier → Is false β) → Is true b → until_true test (earlier ++ b ∷ later) (value true)
  unfolding until_true
  first_true [] b later h k = inl (true, k, refl)
  first_true (d ∷ earlier) b later h k = inl (false, h d (inl refl), first_true earlier b later (λ β i. h β (inr i)) k)

  -- exists
  pub until_true_false : (bs : List Binding) → until_true test bs (value false) ↔ ((β : Binding) → In β bs → Is false β)
  until_true_false bs = (true_false_out bs, true_false_in bs)

  pub until_true_true : (bs : List Binding) → until_true test bs (value true) ↔ FirstOf (Is false) (Is true) bs
  until_true_true bs = (
    true_first bs,
    λ f. subst (λ (l : List Binding). until_true test l (value true)) (sym f.in_order) (first_true f.earlier f.binding f.later f.before f.there),
  )

-- ---- exactly one

not_later : (b β : Binding) (bs : List Binding) → Rising (b ∷ bs) → In β bs → β ≡ b → ⊥
not_later b β bs h i e =
    let l = before_in b bs β h.0 i in
    bindings_asymmetric b β l (subst (λ (x : Binding). order_bindings x b ≡ Less) (sym e) (subst (λ (x : Binding). order_bindings b x ≡ Less) e l))

before_some : (b : Binding) (bs sat : List Binding) → BeforeEach b bs → ((β : Binding) → In β sat → In β bs) → BeforeEach b sat
before_some b bs [] h k = tt
before_some b bs (c ∷ sat) h k = (before_in b bs c h (k c (inl refl)), before_some b bs sat h (λ β i. k β (inr i)))

one_long : (sat : List Binding) (β γ : Binding) → In β sat → In γ sat → (β ≡ γ → ⊥) → length sat ≡ 1 → ⊥
one_long [] β γ i j d e = i
one_long (b ∷ []) β γ (inl x) (inl y) d e = d (x ∙ sym y)
one_long (b ∷ []) β γ (inl x) (inr j) d e = j
one_long (b ∷ []) β γ (inr i) j d e = i
one_long (b ∷ c ∷ sat) β γ i j d e = omega arith

module _ (rec : Meanings) (r c : ℕ) (ρ : State) where
  abbrev Test : Binding → Outcomes Bool
  Test = holds rec r c ρ

  abbrev True : Binding → Type 0
  True b = Test b (value true)

  abbrev False : Binding → Type 0
  False b = Test b (value false)

  abbrev Sat : List Binding → List Binding → Type 0
  Sat bs sat = satisfying rec r c ρ bs (value sat)

  one_out : (bs : List Binding) (β : Binding) → Sat bs (β ∷ []) → OnlyOne False True bs β
  one_out bs β h =
      let f = found_out rec r c ρ bs (β ∷ []) h in
      record {
        among = (f.sound β (inl refl)).0;
        there = (f.sound β (inl refl)).1;
        others = λ b i n. ⊎_elim (λ j. ⊎_elim (λ e. absurd (n e)) (λ z. absurd z) j) (λ k. k) (f.rest b i);
      }

  one_in : (bs : List Binding) (β : Binding) → Rising bs → In β bs → True β → ((b : Binding) → In b bs → (b ≡ β → ⊥) → False b) → Sat bs (β ∷ [])
  unfolding satisfying
  one_in [] β h i t o = absurd i
  one_in (b ∷ bs) β h (inl e) t o =
      inl (true, subst True e t, inl ([], none_in rec r c ρ bs (λ d j. o d (inr j) (λ q. not_later b d bs h j (q ∙ e))), ap (λ (x : Binding). value (x ∷ [])) e))
  one_in (b ∷ bs) β h (inr i) t o = inl (false, o b (inl refl) (λ q. not_later b β bs h i (sym q)), inl (β ∷ [], one_in bs β h.1 i t (λ d j. o d (inr j)), refl))

  -- The testing finds just this binding.
  pub satisfying_one : (bs : List Binding) → Rising bs → (β : Binding) → Sat bs (β ∷ []) ↔ OnlyOne False True bs β
  satisfying_one bs h β = (one_out bs β, λ o. one_in bs β h o.among o.there o.others)

  -- What it finds is in order too.
  sat_rising : (bs sat : List Binding) → Rising bs → Sat bs sat → Rising sat
  unfolding satisfying
  sat_rising [] sat h e = let d : [] ≡ sat = cc in subst Rising d tt
  sat_rising (b ∷ bs) sat h (inr (n, p, k, e)) = absurd (value≢refusal e)
  sat_rising (b ∷ bs) sat h (inl (t, k, inr (n, p, l, e))) = absurd (value≢refusal e)
  sat_rising (b ∷ bs) sat h (inl (t, k, inl (rest, l, e))) =
      let d : cond t (b ∷ rest) rest ≡ sat = cc in
      subst Rising d (go t (sat_rising bs rest h.1 l) (before_some b bs rest h.0 (λ β i. ((found_out rec r c ρ bs rest l).sound β i).0)))
    where
      go : (t : Bool) → Rising rest → BeforeEach b rest → Rising (cond t (b ∷ rest) rest)
      go true x y = (y, x)
      go false x y = x

  -- All are tested and two are true: the testing can find both.
  both_in : (bs : List Binding) (β γ : Binding) → AllTested Test bs → In β bs → In γ bs → (β ≡ γ → ⊥) → True β → True γ → (sat : List Binding) × Sat bs sat × In β sat × In γ sat
  unfolding satisfying
  both_in [] β γ h i j d t u = absurd i
  both_in (b ∷ bs) β γ h (inl e) (inl f) d t u = absurd (d (e ∙ sym f))
  both_in (b ∷ bs) β γ h (inl e) (inr j) d t u =
      let (sat, s, k) = true_in rec r c ρ bs γ (λ x l. h x (inr l)) j u in
      (b ∷ sat, inl (true, subst True e t, inl (sat, s, refl)), inl e, inr k)
  both_in (b ∷ bs) β γ h (inr i) (inl f) d t u =
      let (sat, s, k) = true_in rec r c ρ bs β (λ x l. h x (inr l)) i t in
      (b ∷ sat, inl (true, subst True f u, inl (sat, s, refl)), inr k, inl f)
  both_in (b ∷ bs) β γ h (inr i) (inr j) d t u =
      let (x, y) = h b (inl refl) in
      let (sat, s, k, l) = both_in bs β γ (λ z m. h z (inr m)) i j d t u in
      (cond x (b ∷ sat) sat, inl (x, y, inl (sat, s, refl)), kept x sat β k, kept x sat γ l)
    where
      kept : (x : Bool) (sat : List Binding) (δ : Binding) → In δ sat → In δ (cond x (b ∷ sat) sat)
      kept true sat δ k = inr k
      kept false sat δ k = k

  abbrev Unique : List Binding → Bool → Type 0
  Unique bs t = (satisfying rec r c ρ bs then (λ sat. gives (eqb (length sat) 1))) (value t)

  unique_out : (bs : List Binding) → Unique bs true → (β : Binding) × OnlyOne False True bs β
  unique_out bs (inr (n, p, h, e)) = absurd (value≢refusal e)
  unique_out bs (inl ([], h, e)) = impossible cc
  unique_out bs (inl (β ∷ [], h, e)) = (β, one_out bs β h)
  unique_out bs (inl (β ∷ γ ∷ sat, h, e)) = let d : true ≡ eqb (length (β ∷ γ ∷ sat)) 1 = cc in absurd (omega (arith, eqb-true (length (β ∷ γ ∷ sat)) 1 (sym d)))

  -- exists1
  pub unique_true : (bs : List Binding) → Rising bs → Unique bs true ↔ ((β : Binding) × OnlyOne False True bs β)
  unique_true bs h = (unique_out bs, λ (β, o). inl (β ∷ [], (satisfying_one bs h β).1 o, refl))

  several_out : (bs : List Binding) → Rising bs → Unique bs false → AllFalse Test bs ⊎ (AllTested Test bs × Several True bs)
  several_out bs h (inr (n, p, k, e)) = absurd (value≢refusal e)
  several_out bs h (inl ([], k, e)) = inl (λ β i. ⊎_elim (λ j. absurd j) (λ f. f) ((found_out rec r c ρ bs [] k).rest β i))
  several_out bs h (inl (β ∷ [], k, e)) = impossible cc
  several_out bs h (inl (β ∷ γ ∷ sat, k, e)) =
      let f = found_out rec r c ρ bs (β ∷ γ ∷ sat) k in
      let up = sat_rising bs (β ∷ γ ∷ sat) h k in
      inr (
        f.all,
        record {
          one = β;
          another = γ;
          different = λ d. not_later β γ (γ ∷ sat) up (inl refl) (sym d);
          one_in = (f.sound β (inl refl)).0;
          another_in = (f.sound γ (inr (inl refl))).0;
          one_there = (f.sound β (inl refl)).1;
          another_there = (f.sound γ (inr (inl refl))).1;
        },
      )

  several_in : (bs : List Binding) → AllFalse Test bs ⊎ (AllTested Test bs × Several True bs) → Unique bs false
  several_in bs (inl h) = inl ([], none_in rec r c ρ bs h, refl)
  several_in bs (inr (h, s)) =
      let (sat, k, i, j) = both_in bs s.one s.another h s.one_in s.another_in s.different s.one_there s.another_there in
      inl (sat, k, ap value (sym (ne_eqb (length sat) 1 (one_long sat s.one s.another i j s.different))))

  pub unique_false : (bs : List Binding) → Rising bs → Unique bs false ↔ (AllFalse Test bs ⊎ (AllTested Test bs × Several True bs))
  unique_false bs h = (several_out bs h, several_in bs)

-- ---- comprehensions

module _ (test : Binding → Outcomes Bool) (add : Items → Binding → Outcomes Items) (all : Items → Items → Built) (part : Binding → List Value → Type 0) (All-none : (us : Items) → all us none ≡ built us) (add_is : (us : Items) (b : Binding) (ws : Items) → add us b (value ws) ↔ ((new : List Value) × part b new × (all us (items_of new) ≡ built ws))) (All-more : (us : Items) (b : Binding) (new rest : List Value) → part b new → all us (items_of (new ++ rest)) ≡ build_on (all us (items_of new)) (λ ws. all ws (items_of rest))) where
  abbrev Adding : List Binding → List Value → Type 0
  Adding bs es = Added (λ t b. test b (value t)) part bs es

  added_out : (us : Items) (bs : List Binding) (ws : Items) → collected test add us bs (value ws) → (es : List Value) × Adding bs es × (all us (items_of es) ≡ built ws)
  unfolding collected items_of
  added_out us [] ws e = ([], refl, All-none us ∙ (let d : us ≡ ws = cc in ap built d))
  added_out us (b ∷ bs) ws (inr (n, p, h, e)) = absurd (value≢refusal e)
  added_out us (b ∷ bs) ws (inl (false, h, k)) = let (es, a, e) = added_out us bs ws k in (es, inl (h, a), e)
  added_out us (b ∷ bs) ws (inl (true, h, inr (n, p, k, e))) = absurd (value≢refusal e)
  added_out us (b ∷ bs) ws (inl (true, h, inl (vs, k, l))) =
      let (new, y, d) = (add_is us b vs).0 k in
      let (rest, a, e) = added_out vs bs ws l in
      (new ++ rest, inr (new, rest, h, y, refl, a), All-more us b new rest y ∙ ap (λ (x : Built). build_on x (λ zs. all zs (items_of rest))) d ∙ e)

  -- What is built on is built.
  was_built : (x : Built) (f : Items → Built) (ws : Items) → build_on x f ≡ built ws → (vs : Items) × (x ≡ built vs) × (f vs ≡ built ws)
  was_built (built vs) f ws e = (vs, refl, e)
  was_built (stopped n) f ws e = impossible cc

  added_in : (us : Items) (bs : List Binding) (es : List Value) (ws : Items) → Adding bs es → all us (items_of es) ≡ built ws → collected test add us bs (value ws)
  unfolding collected items_of
  added_in us [] es ws a e = let d : built us ≡ built ws = sym (All-none us) ∙ ap (λ (l : List Value). all us (items_of l)) (sym a) ∙ e in let z : ws ≡ us = cc in ap value z
  added_in us (b ∷ bs) es ws (inl (h, a)) e = inl (false, h, added_in us bs es ws a e)
  added_in us (b ∷ bs) es ws (inr (new, rest, h, y, d, a)) e =
      let (vs, f, g) = was_built (all us (items_of new)) (λ zs. all zs (items_of rest)) ws (sym (All-more us b new rest y) ∙ ap (λ (l : List Value). all us (items_of l)) (sym d) ∙ e) in
      inl (true, h, inl (vs, (add_is us b vs).1 (new, y, f), added_in vs bs rest ws a g))

  -- A collection of what the bindings add.
  pub collected_value : (k : Kind) (bs : List Binding) (v : Value) → (collected test add none bs then (λ vs. gives (collection k vs))) (value v) ↔ ((es : List Value) × Adding bs es × (closed k (all none (items_of es)) ≡ is v))
  collected_value k bs v = (out, into)
    where
      out : (collected test add none bs then (λ vs. gives (collection k vs))) (value v) → (es : List Value) × Adding bs es × (closed k (all none (items_of es)) ≡ is v)
      out (inl (vs, h, e)) = let (es, a, d) = added_out none bs vs h in (es, a, ap (closed k) d ∙ (let z : collection k vs ≡ v = cc in ap is z))
      out (inr (n, p, h, e)) = absurd (value≢refusal e)

      ended : (x : Built) → closed k x ≡ is v → (vs : Items) × (x ≡ built vs) × (v ≡ collection k vs)
      ended (built vs) e = (vs, refl, let z : v ≡ collection k vs = cc in z)
      ended (stopped n) e = impossible cc

      into : (es : List Value) × Adding bs es × (closed k (all none (items_of es)) ≡ is v) → (collected test add none bs then (λ vs. gives (collection k vs))) (value v)
      into (es, a, e) = let (vs, d, f) = ended (all none (items_of es)) e in inl (vs, added_in none bs es vs a d, ap value f)

-- ---- the same of bindings of which it is said otherwise

module _ {A B C D : Binding → Type 0} (f : (β : Binding) → A β → C β) (g : (β : Binding) → B β → D β) where
  pub first-map : {bs : List Binding} → FirstOf A B bs → FirstOf C D bs
  first-map h = record { earlier = h.earlier; binding = h.binding; later = h.later; in_order = h.in_order; before = λ β i. f β (h.before β i); there = g h.binding h.there }

  pub one_map : {bs : List Binding} {β : Binding} → OnlyOne A B bs β → OnlyOne C D bs β
  one_map {bs} {β} h = record { among = h.among; there = g β h.there; others = λ b i n. f b (h.others b i n) }

pub several_map : {B D : Binding → Type 0} → ((β : Binding) → B β → D β) → {bs : List Binding} → Several B bs → Several D bs
several_map g h =
    record { one = h.one; another = h.another; different = h.different; one_in = h.one_in; another_in = h.another_in; one_there = g h.one h.one_there; another_there = g h.another h.another_there }

pub added_map : {so told : Bool → Binding → Type 0} (f : (t : Bool) (β : Binding) → so t β → told t β) (part : Binding → List Value → Type 0) (bs : List Binding) (es : List Value) → Added so part bs es → Added told part bs es
added_map f part [] es h = h
added_map f part (β ∷ bs) es (inl (h, k)) = inl (f false β h, added_map f part bs es k)
added_map f part (β ∷ bs) es (inr (new, rest, h, y, e, k)) = inr (new, rest, f true β h, y, e, added_map f part bs rest k)
