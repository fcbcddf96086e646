-- A let-be refuses for want of a binding exactly when there is none.
use Rattle.std.specs.Prelude.{◌≡◌, refl, Bool, true, false, cond as choosing, cond, ◌↔◌, List, [], ◌∷◌, ℕ, zero, suc, ◌<◌, ltb, length, get_or}
use Rattle.std.proofs.Common.{sym, ap, ◌∙◌, subst, inl, inr, ⊎_elim, arith}
use Rattle.prelude.proofs.Absurd.{impossible}
use Rattle.prelude.specs.Membership.{In}
use Rattle.choices.specs.Tree.{Tree, give, stop, choose, bind, gave, stopped, beyond, follow}
use Rattle.choices.proofs.Trees.{bind_cong, bind_assoc, then_run, follow_bind}
use Rattle.values.specs.Value.{set, Value, boolean, collection, Items}
use Rattle.patterns.specs.Binding.{Binding, nothing}
use Rattle.patterns.specs.Pattern.{Pattern, list_of}
use Rattle.patterns.specs.Binder.{bound, formed, bindings}
use Rattle.patterns.specs.Relation.{Matches}
use Rattle.patterns.proofs.Laws.Matched.{bindings_exactly}
use Rattle.patterns.proofs.Laws.Forming.{formed_bound}
use Rattle.meaning.specs.Node.{Node, let_be}
use Rattle.meaning.specs.State.{State, under}
use Rattle.meaning.specs.Meaning.{Evaluation, is_true, formed_at, members_at, satisfying, satisfied, means, Sheet, meaning}
use Rattle.meaning.proofs.Laws.Equation.{NodesLower, Downward, meaning_is}
use Rattle.meaning.proofs.Laws.Sure.{Placed, placed_meaning, follow_placed}

-- ---- what follows the set operand

-- The let-be r, once its bindings are formed; and once its set operand gave a value.
abbrev pub after_bindings : Evaluation → ℕ → ℕ → ℕ → State → List Binding → Tree Value
after_bindings rec r c b ρ bs = bind (satisfying rec r c ρ bs) (λ sat. bind (satisfied r sat) (λ β. rec b (under ρ β)))

abbrev pub after_set : Evaluation → ℕ → Pattern → ℕ → ℕ → State → Value → Tree Value
after_set rec r p c b ρ v = bind (members_at r v) (λ vs. bind (formed_at r (formed p (list_of vs))) (λ bs. after_bindings rec r c b ρ bs))

-- The let-be is its set operand, and then what follows that.
pub let_be_is : (s : Sheet) → Downward s → (r p t c b : ℕ) → s.node r ≡ let_be p t c b → (ρ : State) → meaning s r ρ ≡ bind (meaning s t ρ) (λ v. after_set (meaning s) r (s.pattern p) c b ρ v)
unfolding means
let_be_is s d r p t c b e ρ =
    meaning_is s d r ρ
    ∙ ap (λ (n : Node). means s.pattern (λ a σ. meaning s a σ) r n ρ) e
    ∙ bind_assoc (meaning s t ρ) (λ v. bind (members_at r v) (λ vs. formed_at r (formed (s.pattern p) (list_of vs)))) (λ bs. after_bindings (meaning s) r c b ρ bs)
    ∙ bind_cong (meaning s t ρ) _ _ (λ v. bind_assoc (members_at r v) (λ vs. formed_at r (formed (s.pattern p) (list_of vs))) (λ bs. after_bindings (meaning s) r c b ρ bs))

-- ---- the bindings that make the condition true

-- The condition c is true, or is true or false, under a binding.
abbrev pub IsTrue : Evaluation → ℕ → State → Binding → Type 0
IsTrue rec c ρ β = rec c (under ρ β) ≡ give (boolean true)

abbrev pub Decided : Evaluation → ℕ → State → Binding → Type 0
Decided rec c ρ β = (x : Bool) × (rec c (under ρ β) ≡ give (boolean x))

-- The bindings in sat are those of bs that make the condition true.
record Filtered (rec : Evaluation) (r c : ℕ) (ρ : State) (bs : List Binding) : Type 0 where
  sat : List Binding
  is : satisfying rec r c ρ bs ≡ give sat
  sound : (β : Binding) → In β sat → In β bs × IsTrue rec c ρ β
  whole : (β : Binding) → In β bs → IsTrue rec c ρ β → In β sat

filter : (rec : Evaluation) (r c : ℕ) (ρ : State) (bs : List Binding) → ((β : Binding) → In β bs → Decided rec c ρ β) → Filtered rec r c ρ bs
unfolding satisfying
filter rec r c ρ [] h = record { sat = []; is = refl; sound = λ β i. absurd i; whole = λ β i t. i }
filter rec r c ρ (b ∷ bs) h = go (filter rec r c ρ bs (λ β i. h β (inr i))) (h b (inl refl))
  where
    go : Filtered rec r c ρ bs → Decided rec c ρ b → Filtered rec r c ρ (b ∷ bs)
    go f (true, e) =
        record {
          sat = b ∷ f.sat;
          is = ap (λ (t : Tree Value). bind (bind t (is_true r)) (λ x. bind (satisfying rec r c ρ bs) (λ l. give (cond x (b ∷ l) l)))) e ∙ ap (λ (t : Tree (List Binding)). bind t (λ l. give (b ∷ l))) f.is;
          sound = λ β i. ⊎_elim (λ d. (inl d, subst (IsTrue rec c ρ) (sym d) e)) (λ j. (inr (f.sound β j).0, (f.sound β j).1)) i;
          whole = λ β i t. ⊎_elim (λ d. inl d) (λ j. inr (f.whole β j t)) i;
        }
    go f (false, e) =
        record {
          sat = f.sat;
          is = ap (λ (t : Tree Value). bind (bind t (is_true r)) (λ x. bind (satisfying rec r c ρ bs) (λ l. give (cond x (b ∷ l) l)))) e ∙ ap (λ (t : Tree (List Binding)). bind t (λ l. give l)) f.is;
          sound = λ β i. (inr (f.sound β i).0, (f.sound β i).1);
          whole = λ β i t.
              ⊎_elim
              (λ d. let y : ◌≡◌ {A = Tree Value} (give (boolean false)) (give (boolean true)) = sym e ∙ subst (IsTrue rec c ρ) d t in impossible cc)
              (λ j. f.whole β j t) i;
        }

-- ---- the theorem

abbrev ways_of : Tree Value → ℕ
ways_of (give v) = 0
ways_of (stop n r) = 0
ways_of (choose r n ways) = 1

module _ (rec : Evaluation) (r c b : ℕ) (ρ : State) where
  none_then_24 : (sat : List Binding) → ((β : Binding) → In β sat → ⊥) → bind (satisfied r sat) (λ β. rec b (under ρ β)) ≡ stop 24 r
  none_then_24 [] h = refl
  none_then_24 (x ∷ sat) h = absurd (h x (inl refl))

  24_then_none : (sat : List Binding) → bind (satisfied r sat) (λ β. rec b (under ρ β)) ≡ stop 24 r → (β : Binding) → In β sat → ⊥
  24_then_none [] e β i = i
  24_then_none (x ∷ sat) e β i = let z : ◌≡◌ {A = ℕ} 1 0 = ap ways_of e in absurd (omega arith)

-- No binding matches a member of the set and makes the condition true.
abbrev pub NoneTrue : Evaluation → Pattern → ℕ → State → Items → Type 0
NoneTrue rec p c ρ vs = (m : Value) (β : Binding) → In m (list_of vs) → Matches p m β → IsTrue rec c ρ β → ⊥

-- ---- what follows, by the bindings that make the condition true

module _ (rec : Evaluation) (r : ℕ) (p : Pattern) (c b : ℕ) (ρ : State) (vs : Items) (bs : List Binding) (formed_is : formed p (list_of vs) ≡ bound bs) (decided : (β : Binding) → In β bs → Decided rec c ρ β) where
  filtered : Filtered rec r c ρ bs
  filtered = filter rec r c ρ bs decided

  all_bindings : bs ≡ bindings p (list_of vs)
  all_bindings = (formed_bound p (list_of vs) bs formed_is).all

  after_is : after_set rec r p c b ρ (collection set vs) ≡ bind (satisfied r filtered.sat) (λ β. rec b (under ρ β))
  after_is =
      ap (λ x. bind (formed_at r x) (λ l. after_bindings rec r c b ρ l)) formed_is
      ∙ ap (λ (t : Tree (List Binding)). bind t (λ sat. bind (satisfied r sat) (λ β. rec b (under ρ β)))) filtered.is

  -- A binding that matches a member and makes the condition true is among the satisfying ones, and they are all such.
  among : (m : Value) (β : Binding) → In m (list_of vs) → Matches p m β → IsTrue rec c ρ β → In β filtered.sat
  among m β i k y = filtered.whole β (subst (In β) (sym all_bindings) ((bindings_exactly p (list_of vs) β).1 (m, i, k))) y

  none_among : NoneTrue rec p c ρ vs → (β : Binding) → In β filtered.sat → ⊥
  none_among n β i =
      let (m, j, k) = (bindings_exactly p (list_of vs) β).0 (subst (In β) all_bindings (filtered.sound β i).0) in
      n m β j k (filtered.sound β i).1

  -- THEOREM: where the set operand gave a set, forming its bindings gave neither 29 nor 30, and the condition is true or false at each binding,
  -- what follows is 24 at the let-be exactly when no binding matches a member of the set and makes the condition true.
  pub let_be_24 : (after_set rec r p c b ρ (collection set vs) ≡ stop 24 r) ↔ NoneTrue rec p c ρ vs
  let_be_24 = (
    λ t m β i k y. 24_then_none rec r c b ρ filtered.sat (sym after_is ∙ t) β (among m β i k y),
    λ n. after_is ∙ none_then_24 rec r c b ρ filtered.sat (none_among n),
  )

-- ---- the same in a run

-- A choice at r, with bodies below r, does not come to 24 at r.
choice_not_24 : (r q n : ℕ) (ways : ℕ → Tree Value) (k : ℕ) (l left : List ℕ) → q < r → ((i : ℕ) → Placed q (ways i)) → follow (choose r n ways) k l ≡ stopped 24 r left → ⊥
choice_not_24 r q n ways zero l left h p e = let z : ◌≡◌ {A = ℕ} 31 24 = cc in absurd (omega arith)
choice_not_24 r q n ways (suc k) [] left h p e = impossible cc
choice_not_24 r q n ways (suc k) (c ∷ l) left h p e = go (ltb c n) e
  where
    go : (b : Bool) → choosing b (follow (ways c) k l) (beyond r n (c ∷ l)) ≡ stopped 24 r left → ⊥
    go true e = let i = follow_placed q (ways c) k l 24 r left (p c) e in absurd (omega arith)
    go false e = impossible cc

satisfied_not_24 : (rec : Evaluation) (r q b : ℕ) (ρ : State) (sat : List Binding) (k : ℕ) (l left : List ℕ) → q < r → ((σ : State) → Placed q (rec b σ)) → follow (bind (satisfied r sat) (λ β. rec b (under ρ β))) k l ≡ stopped 24 r left → (β : Binding) → In β sat → ⊥
satisfied_not_24 rec r q b ρ [] k l left h p e β i = i
satisfied_not_24 rec r q b ρ (x ∷ sat) k l left h p e β i =
    choice_not_24 r q (length (x ∷ sat)) (λ j. rec b (under ρ (get_or (x ∷ sat) j nothing))) k l left h (λ j. p (under ρ (get_or (x ∷ sat) j nothing))) e

-- THEOREM: a let-be reached in a run, with k choices allowed and the entries l left, whose set operand gives a set, whose bindings are within
-- the limits and whose condition is true or false at each: it gives 24 exactly when no binding matches a member of the set and makes its
-- condition true.
pub let_be_run : (s : Sheet) → Downward s → (r p t c b : ℕ) → s.node r ≡ let_be p t c b → (ρ : State) (k : ℕ) (l : List ℕ) (vs : Items) (j : ℕ) (m : List ℕ)
    → follow (meaning s t ρ) k l ≡ gave (collection set vs) j m → (bs : List Binding) → formed (s.pattern p) (list_of vs) ≡ bound bs → ((β : Binding) → In β bs → Decided (meaning s) c ρ β)
    → ((left : List ℕ) × (follow (meaning s r ρ) k l ≡ stopped 24 r left)) ↔ NoneTrue (meaning s) (s.pattern p) c ρ vs
let_be_run s d r p t c b e ρ k l vs j m g bs f h = (
  λ (left, w) x β i y z.
      satisfied_not_24 (meaning s) r b b ρ (filtered (meaning s) r (s.pattern p) c b ρ vs bs f h).sat j m left below (λ σ. placed_meaning s d b σ)
      (ap (λ u. follow u j m) (sym (after_is (meaning s) r (s.pattern p) c b ρ vs bs f h)) ∙ sym run_is ∙ w) β
      (among (meaning s) r (s.pattern p) c b ρ vs bs f h x β i y z),
  λ n. (m, run_is ∙ ap (λ u. follow u j m) ((let_be_24 (meaning s) r (s.pattern p) c b ρ vs bs f h).1 n)),
)
  where
    run_is : follow (meaning s r ρ) k l ≡ follow (after_set (meaning s) r (s.pattern p) c b ρ (collection set vs)) j m
    run_is =
        ap (λ u. follow u k l) (let_be_is s d r p t c b e ρ)
        ∙ follow_bind (meaning s t ρ) (λ v. after_set (meaning s) r (s.pattern p) c b ρ v) k l
        ∙ ap (λ u. then_run u (λ v k' l'. follow (after_set (meaning s) r (s.pattern p) c b ρ v) k' l')) g

    below : b < r
    below = (subst (λ n. NodesLower r n) e (d r)).covered_ones.1.0
