-- The leaves of a record's tree have exactly the outcomes of its loose meaning.
use Rattle.std.specs.Prelude.{◌≡◌, refl, Bool, cond, ◌↔◌, ℕ, zero, suc, ◌≤◌, ◌<◌, eqb, length, get_or}
use Rattle.std.proofs.Common.{sym, subst, inl, inr, ⊎_elim, arith}
use Rattle.std.proofs.Math.Bool.{true, false}
use Rattle.std.proofs.Math.Option.{Option, none as absent, some}
use mathlib.Core.List.{List, [], ◌∷◌}
use Rattle.prelude.specs.Membership.{In}
use Rattle.prelude.proofs.Membership.{at_in}
use Rattle.choices.specs.Tree.{Tree, give, stop, bind, Gives}
use Rattle.choices.specs.Outcome.{Outcome, value, refusal}
use Rattle.choices.proofs.Trees.{gives_bind_in, gives_bind_out}
use Rattle.values.specs.Value.{Kind, set, sequence, map, Value, boolean, integer, quote, collection, Items, none, more}
use Rattle.operators.specs.Answer.{Answer, is, refused, Built, built, stopped, as_boolean, as_integer, as_set}
use Rattle.operators.specs.Booleans.{Left, settles, leaves, left, right}
use Rattle.operators.specs.Sets.{range_of}
use Rattle.operators.specs.Maps.{apply_to}
use Rattle.operators.specs.Enumerations.{add_member, add_item, add_entry}
use Rattle.operators.specs.Operators.{unary, binary}
use Rattle.patterns.specs.Binding.{Binding, nothing}
use Rattle.patterns.specs.Pattern.{Pattern, loose as is_loose, list_of}
use Rattle.patterns.specs.Binder.{Formed, bound, refused as unformed, formed}
use Rattle.patterns.proofs.Laws.Forming.{single_formed}
use Rattle.meaning.specs.Node.{Node, Quantifier, forall, exists, exists1, truth, whole, named, unary_of, binary_of, connective, if, enumeration, range, let_in, let_be, quantified, iota, set_comprehension, sequence_comprehension, map_comprehension, application, quoted, no_expression}
use Rattle.meaning.specs.State.{State, under, value_in}
use Rattle.meaning.specs.Meaning as tree
use Rattle.meaning.specs.Sheet.{Sheet, enumerated, pattern_name}
use Rattle.meaning.specs.Loose as loose
use Rattle.meaning.specs.Loose.{Outcomes, ◌then◌, gives, refuses, under_each, loose_of}
use Rattle.meaning.proofs.Laws.Clauses.{chosen_from, clauses_of_13}
use Rattle.meaning.proofs.Laws.Equation.{Downward, meaning_is}

-- The leaves have exactly these outcomes.
abbrev pub Equal : {A : Type 0} → Tree A → Outcomes A → Type 0
Equal {A} t S = (o : Outcome A) → Gives t o ↔ S o

-- ---- the building blocks

same_give : {A : Type 0} (a : A) → Equal (give a) (gives a)
same_give a o = (λ e. e, λ e. e)

same_stop : {A : Type 0} (n r : ℕ) → Equal {A = A} (stop n r) (refuses n r)
same_stop n r o = (λ e. e, λ e. e)

same_bind : {A B : Type 0} (t : Tree A) (S : Outcomes A) (f : A → Tree B) (F : A → Outcomes B) → Equal t S → ((a : A) → Equal (f a) (F a)) → Equal (bind t f) (S then F)
same_bind t S f F h k o = (
  λ g. ⊎_elim (λ w. inr (w.0, w.1, (h (refusal w.0 w.1)).0 w.3, w.2)) (λ w. inl (w.0, (h (value w.0)).0 w.1, (k w.0 o).0 w.2)) (gives_bind_out t f o g),
  λ s.
      gives_bind_in t f o
      (⊎_elim (λ w. inr (w.0, (h (value w.0)).1 w.1, (k w.0 o).1 w.2)) (λ w. inl (w.0, w.1, w.3, (h (refusal w.0 w.1)).1 w.2)) s),
)

same_cond : {A : Type 0} (b : Bool) (t u : Tree A) (S U : Outcomes A) → Equal t S → Equal u U → Equal (cond b t u) (cond b S U)
same_cond true t u S U h k = h
same_cond false t u S U h k = k

-- Sets of outcomes that agree are a tree's alike.
same_told : {A : Type 0} (t : Tree A) (S U : Outcomes A) → Equal t S → ((o : Outcome A) → S o ↔ U o) → Equal t U
same_told t S U h k o = (λ g. (k o).0 ((h o).0 g), λ u. (h o).1 ((k o).1 u))

same_at : (r : ℕ) (a : Answer) → Equal (tree.at r a) (loose.at r a)
same_at r (is v) = same_give v
same_at r (refused n) = same_stop n r

same_built : (r : ℕ) (b : Built) → Equal (tree.built_at r b) (loose.built_at r b)
same_built r (built vs) = same_give vs
same_built r (stopped n) = same_stop n r

same_else : {A : Type 0} (n r : ℕ) (x : Option A) → Equal (tree.or_else n r x) (loose.or_else n r x)
same_else n r absent = same_stop n r
same_else n r (some a) = same_give a

same_formed : (r : ℕ) (f : Formed) → Equal (tree.formed_at r f) (loose.formed_at r f)
same_formed r (bound bs) = same_give bs
same_formed r (unformed n) = same_stop n r

-- ---- a choice among bindings

in_at : (b : Binding) (bs : List Binding) → In b bs → (i : ℕ) × (i < length bs) × (get_or bs i nothing ≡ b)
in_at b [] h = absurd h
in_at b (c ∷ bs) (inl e) = (0, omega arith, sym e)
in_at b (c ∷ bs) (inr h) = let w = in_at b bs h in (suc w.0, omega (arith, w.1), w.2)

same_chosen : {A : Type 0} (r : ℕ) (bs : List Binding) (f : Binding → Tree A) (F : Binding → Outcomes A) → ((b : Binding) → Equal (f b) (F b)) → Equal (bind (tree.chosen_binding r bs) f) (under_each bs F)
same_chosen r bs f F h o = (
  λ g. (get_or bs g.0 nothing, at_in bs g.0 nothing g.1, (h (get_or bs g.0 nothing) o).0 g.2),
  λ w. let i = in_at w.0 bs w.1 in (i.0, i.1, subst (λ b. Gives (f b) o) (sym i.2) ((h w.0 o).1 w.2)),
)

-- One binding alone.
same_one : {A : Type 0} (b : Binding) (bs : List Binding) (f : Binding → Tree A) (F : Binding → Outcomes A) → length (b ∷ bs) ≤ 1 → ((c : Binding) → Equal (f c) (F c)) → Equal (f b) (under_each (b ∷ bs) F)
same_one b [] f F s h o = (
  λ g. (b, inl refl, (h b o).0 g),
  λ w. ⊎_elim (λ e. (h b o).1 (subst (λ c. F c o) e w.2)) (λ z. absurd z) w.1,
)
same_one b (c ∷ bs) f F s h o = absurd (omega arith)

-- Kind 12, from its bindings on. A let that is not loose has one binding.
same_let : (r : ℕ) (l : Bool) (x : Formed) (f : Binding → Tree Value) (F : Binding → Outcomes Value) → ((bs : List Binding) → l ≡ false → x ≡ bound bs → length bs ≤ 1) → ((b : Binding) → Equal (f b) (F b)) → Equal (bind (tree.formed_at r x) (λ bs. bind (tree.matched r l bs) f)) (loose.body12 r F x)
same_let r l (unformed n) f F s h = same_stop n r
same_let r l (bound []) f F s h = same_stop 23 r
same_let r true (bound (b ∷ bs)) f F s h = same_chosen r (b ∷ bs) f F h
same_let r false (bound (b ∷ bs)) f F s h = same_one b bs f F (s (b ∷ bs) refl refl) h

-- Kind 13, from the bindings that make its condition true on.
same_satisfied : (r : ℕ) (bs : List Binding) (f : Binding → Tree Value) (F : Binding → Outcomes Value) → ((b : Binding) → Equal (f b) (F b)) → Equal (bind (tree.satisfied r bs) f) (chosen_from r F bs)
same_satisfied r [] f F h = same_stop 24 r
same_satisfied r (b ∷ bs) f F h = same_chosen r (b ∷ bs) f F h

same_unique : (r : ℕ) (p : Pattern) (bs : List Binding) → Equal (tree.unique r p bs) (loose.unique r p bs)
same_unique r p [] = same_stop 25 r
same_unique r p (b ∷ []) = same_else 25 r (value_in b (pattern_name p))
same_unique r p (b ∷ c ∷ bs) = same_stop 25 r

-- ---- records, over records that agree

module _ (rec : tree.Evaluation) (Rec : loose.Meanings) (agrees : (a : ℕ) (ρ : State) → Equal (rec a ρ) (Rec a ρ)) where
  same_all : (os : List ℕ) (ρ : State) → Equal (tree.all_of rec os ρ) (loose.all_of Rec os ρ)
  unfolding tree.all_of loose.all_of
  same_all [] ρ = same_give none
  same_all (a ∷ os) ρ =
      same_bind (rec a ρ) (Rec a ρ) _ _ (agrees a ρ)
      (λ v. same_bind (tree.all_of rec os ρ) (loose.all_of Rec os ρ) _ _ (same_all os ρ) (λ vs. same_give (more v vs)))

  same_both : (a b : ℕ) (ρ : State) (f : Value → Value → Tree Value) (F : Value → Value → Outcomes Value) → ((v w : Value) → Equal (f v w) (F v w)) → Equal (tree.both_of rec a b ρ f) (loose.both_of Rec a b ρ F)
  same_both a b ρ f F h =
      same_bind (rec a ρ) (Rec a ρ) _ _ (agrees a ρ) (λ v. same_bind (rec b ρ) (Rec b ρ) _ _ (agrees b ρ) (λ w. h v w))

  same_right : (r b : ℕ) (ρ : State) (l : Left) → Equal (tree.right_of rec r b ρ l) (loose.right_of Rec r b ρ l)
  same_right r b ρ (settles a) = same_at r a
  same_right r b ρ leaves = same_bind (rec b ρ) (Rec b ρ) _ _ (agrees b ρ) (λ w. same_at r (right w))

  same_holds : (r c : ℕ) (ρ : State) (b : Binding) → Equal (tree.holds rec r c ρ b) (loose.holds Rec r c ρ b)
  same_holds r c ρ b = same_bind (rec c (under ρ b)) (Rec c (under ρ b)) _ _ (agrees c (under ρ b)) (λ v. same_else 20 r (as_boolean v))

  same_bindings : (r : ℕ) (p : Pattern) (s : ℕ) (ρ : State) → Equal (tree.bindings_of rec r p s ρ) (loose.bindings_of Rec r p s ρ)
  same_bindings r p s ρ =
      same_bind (rec s ρ) (Rec s ρ) _ _ (agrees s ρ)
      (λ v. same_bind (tree.or_else 20 r (as_set v)) (loose.or_else 20 r (as_set v)) _ _ (same_else 20 r (as_set v)) (λ vs. same_formed r (formed p (list_of vs))))

  same_satisfying : (r c : ℕ) (ρ : State) (bs : List Binding) → Equal (tree.satisfying rec r c ρ bs) (loose.satisfying Rec r c ρ bs)
  unfolding tree.satisfying loose.satisfying
  same_satisfying r c ρ [] = same_give []
  same_satisfying r c ρ (b ∷ bs) =
      same_bind (tree.holds rec r c ρ b) (loose.holds Rec r c ρ b) _ _ (same_holds r c ρ b)
      (λ t. same_bind (tree.satisfying rec r c ρ bs) (loose.satisfying Rec r c ρ bs) _ _ (same_satisfying r c ρ bs) (λ sat. same_give (cond t (b ∷ sat) sat)))

  same_until_false : (test : Binding → Tree Bool) (Test : Binding → Outcomes Bool) → ((b : Binding) → Equal (test b) (Test b)) → (bs : List Binding) → Equal (tree.until_false test bs) (loose.until_false Test bs)
  unfolding tree.until_false loose.until_false
  same_until_false test Test h [] = same_give true
  same_until_false test Test h (b ∷ bs) =
      same_bind (test b) (Test b) _ _ (h b)
      (λ t. same_cond t (tree.until_false test bs) (give false) (loose.until_false Test bs) (gives false) (same_until_false test Test h bs) (same_give false))

  same_until_true : (test : Binding → Tree Bool) (Test : Binding → Outcomes Bool) → ((b : Binding) → Equal (test b) (Test b)) → (bs : List Binding) → Equal (tree.until_true test bs) (loose.until_true Test bs)
  unfolding tree.until_true loose.until_true
  same_until_true test Test h [] = same_give false
  same_until_true test Test h (b ∷ bs) =
      same_bind (test b) (Test b) _ _ (h b)
      (λ t. same_cond t (give true) (tree.until_true test bs) (gives true) (loose.until_true Test bs) (same_give true) (same_until_true test Test h bs))

  same_quantify : (q : Quantifier) (r c : ℕ) (ρ : State) (bs : List Binding) → Equal (tree.quantify q rec r c ρ bs) (loose.quantify q Rec r c ρ bs)
  same_quantify forall r c ρ bs = same_until_false (tree.holds rec r c ρ) (loose.holds Rec r c ρ) (same_holds r c ρ) bs
  same_quantify exists r c ρ bs = same_until_true (tree.holds rec r c ρ) (loose.holds Rec r c ρ) (same_holds r c ρ) bs
  same_quantify exists1 r c ρ bs =
      same_bind (tree.satisfying rec r c ρ bs) (loose.satisfying Rec r c ρ bs) _ _ (same_satisfying r c ρ bs) (λ sat. same_give (eqb (length sat) 1))

  same_collected : (test : Binding → Tree Bool) (Test : Binding → Outcomes Bool) (add : Items → Binding → Tree Items) (Add : Items → Binding → Outcomes Items) → ((b : Binding) → Equal (test b) (Test b)) → ((vs : Items) (b : Binding) → Equal (add vs b) (Add vs b)) → (vs : Items) (bs : List Binding) → Equal (tree.collected test add vs bs) (loose.collected Test Add vs bs)
  unfolding tree.collected loose.collected
  same_collected test Test add Add h k vs [] = same_give vs
  same_collected test Test add Add h k vs (b ∷ bs) =
      same_bind (test b) (Test b) _ _ (h b)
      (λ t. same_cond t (bind (add vs b) (λ ws. tree.collected test add ws bs)) (tree.collected test add vs bs) (Add vs b then (λ ws. loose.collected Test Add ws bs)) (loose.collected Test Add vs bs)
      (same_bind (add vs b) (Add vs b) _ _ (k vs b) (λ ws. same_collected test Test add Add h k ws bs))
      (same_collected test Test add Add h k vs bs))

  same_one_added : (r : ℕ) (add : Items → Value → Built) (e : ℕ) (ρ : State) (vs : Items) (b : Binding) → Equal (tree.add_one rec r add e ρ vs b) (loose.add_one Rec r add e ρ vs b)
  same_one_added r add e ρ vs b = same_bind (rec e (under ρ b)) (Rec e (under ρ b)) _ _ (agrees e (under ρ b)) (λ v. same_built r (add vs v))

  same_pair_added : (r k e : ℕ) (ρ : State) (vs : Items) (b : Binding) → Equal (tree.add_pair rec r k e ρ vs b) (loose.add_pair Rec r k e ρ vs b)
  same_pair_added r k e ρ vs b =
      same_bind (rec k (under ρ b)) (Rec k (under ρ b)) _ _ (agrees k (under ρ b))
      (λ key. same_bind (rec e (under ρ b)) (Rec e (under ρ b)) _ _ (agrees e (under ρ b)) (λ v. same_built r (add_entry vs key v)))

  same_integers : (r : ℕ) (vs : Items) → Equal (tree.integers_at r vs) (loose.integers_at r vs)
  unfolding tree.integers_at loose.integers_at
  same_integers r none = same_give none
  same_integers r (more v vs) =
      same_bind (tree.or_else 20 r (as_integer v)) (loose.or_else 20 r (as_integer v)) _ _ (same_else 20 r (as_integer v))
      (λ z. same_bind (tree.integers_at r vs) (loose.integers_at r vs) _ _ (same_integers r vs) (λ ws. same_give (more v ws)))

  same_integer_bindings : (r : ℕ) (p : Pattern) (s : ℕ) (ρ : State) → Equal (tree.integer_bindings rec r p s ρ) (loose.integer_bindings Rec r p s ρ)
  same_integer_bindings r p s ρ =
      same_bind (rec s ρ) (Rec s ρ) _ _ (agrees s ρ)
      (λ v. same_bind (tree.or_else 20 r (as_set v)) (loose.or_else 20 r (as_set v)) _ _ (same_else 20 r (as_set v))
      (λ vs. same_bind (tree.integers_at r vs) (loose.integers_at r vs) _ _ (same_integers r vs) (λ ws. same_formed r (formed p (list_of ws)))))

  same_comprehension : (r : ℕ) (k : Kind) (c : ℕ) (ρ : State) (add : Items → Binding → Tree Items) (Add : Items → Binding → Outcomes Items) → ((vs : Items) (b : Binding) → Equal (add vs b) (Add vs b)) → (bs : List Binding) → Equal (tree.comprehension rec r k c ρ add bs) (loose.comprehension Rec r k c ρ Add bs)
  same_comprehension r k c ρ add Add h bs =
      same_bind (tree.collected (tree.holds rec r c ρ) add none bs) (loose.collected (loose.holds Rec r c ρ) Add none bs) _ _
      (same_collected (tree.holds rec r c ρ) (loose.holds Rec r c ρ) add Add (same_holds r c ρ) h none bs) (λ vs. same_give (collection k vs))

  -- Kind 13, from its bindings on.
  same_let_be : (r c b : ℕ) (ρ : State) (bs : List Binding) → Equal (bind (tree.satisfying rec r c ρ bs) (λ sat. bind (tree.satisfied r sat) (λ β. rec b (under ρ β)))) (loose.body13 r (loose.holds Rec r c ρ) (λ β. Rec b (under ρ β)) bs)
  same_let_be r c b ρ bs =
      same_told (bind (tree.satisfying rec r c ρ bs) (λ sat. bind (tree.satisfied r sat) (λ β. rec b (under ρ β)))) (loose.satisfying Rec r c ρ bs then (λ sat. chosen_from r (λ β. Rec b (under ρ β)) sat)) _
      (same_bind (tree.satisfying rec r c ρ bs) (loose.satisfying Rec r c ρ bs) (λ sat. bind (tree.satisfied r sat) (λ β. rec b (under ρ β))) (λ sat. chosen_from r (λ β. Rec b (under ρ β)) sat) (same_satisfying r c ρ bs)
      (λ sat. same_satisfied r sat (λ β. rec b (under ρ β)) (λ β. Rec b (under ρ β)) (λ β. agrees b (under ρ β))))
      (clauses_of_13 Rec r c ρ (λ β. Rec b (under ρ β)) bs)

  same_node : (pattern : ℕ → Pattern) (r : ℕ) (n : Node) (ρ : State) → Equal (tree.means pattern rec r n ρ) (loose.loose_of pattern Rec r n ρ)
  unfolding tree.means loose.loose_of
  same_node pattern r (truth b) ρ = same_give (boolean b)
  same_node pattern r (whole z) ρ = same_give (integer z)
  same_node pattern r (named x) ρ = same_else 20 r (value_in ρ x)
  same_node pattern r (unary_of op a) ρ = same_bind (rec a ρ) (Rec a ρ) _ _ (agrees a ρ) (λ v. same_at r (unary op v))
  same_node pattern r (binary_of op a b) ρ = same_both a b ρ _ _ (λ v w. same_at r (binary op v w))
  same_node pattern r (connective c a b) ρ = same_bind (rec a ρ) (Rec a ρ) _ _ (agrees a ρ) (λ v. same_right r b ρ (left c v))
  same_node pattern r (if t a b) ρ =
      same_bind (rec t ρ) (Rec t ρ) _ _ (agrees t ρ)
      (λ v. same_bind (tree.is_true r v) (loose.is_true r v) _ _ (same_else 20 r (as_boolean v)) (λ y. same_cond y (rec a ρ) (rec b ρ) (Rec a ρ) (Rec b ρ) (agrees a ρ) (agrees b ρ)))
  same_node pattern r (enumeration k os) ρ = same_bind (tree.all_of rec os ρ) (loose.all_of Rec os ρ) _ _ (same_all os ρ) (λ vs. same_at r (enumerated k vs))
  same_node pattern r (range a b) ρ = same_both a b ρ _ _ (λ v w. same_at r (range_of v w))
  same_node pattern r (let_in p a b) ρ =
      same_bind (rec a ρ) (Rec a ρ) _ _ (agrees a ρ)
      (λ v. same_let r (is_loose (pattern p)) (formed (pattern p) (v ∷ [])) (λ β. rec b (under ρ β)) (λ β. Rec b (under ρ β))
      (λ bs l e. single_formed (pattern p) v bs l e) (λ β. agrees b (under ρ β)))
  same_node pattern r (let_be p s c b) ρ =
      same_bind (tree.bindings_of rec r (pattern p) s ρ) (loose.bindings_of Rec r (pattern p) s ρ) _ _ (same_bindings r (pattern p) s ρ)
      (λ bs. same_let_be r c b ρ bs)
  same_node pattern r (quantified q p s c) ρ =
      same_bind (tree.bindings_of rec r (pattern p) s ρ) (loose.bindings_of Rec r (pattern p) s ρ) _ _ (same_bindings r (pattern p) s ρ)
      (λ bs. same_bind (tree.quantify q rec r c ρ bs) (loose.quantify q Rec r c ρ bs) _ _ (same_quantify q r c ρ bs) (λ t. same_give (boolean t)))
  same_node pattern r (iota p s c) ρ =
      same_bind (tree.bindings_of rec r (pattern p) s ρ) (loose.bindings_of Rec r (pattern p) s ρ) _ _ (same_bindings r (pattern p) s ρ)
      (λ bs. same_bind (tree.satisfying rec r c ρ bs) (loose.satisfying Rec r c ρ bs) _ _ (same_satisfying r c ρ bs) (λ sat. same_unique r (pattern p) sat))
  same_node pattern r (set_comprehension p s c e) ρ =
      same_bind (tree.bindings_of rec r (pattern p) s ρ) (loose.bindings_of Rec r (pattern p) s ρ) _ _ (same_bindings r (pattern p) s ρ)
      (λ bs. same_comprehension r set c ρ _ _ (same_one_added r add_member e ρ) bs)
  same_node pattern r (sequence_comprehension p s c e) ρ =
      same_bind (tree.integer_bindings rec r (pattern p) s ρ) (loose.integer_bindings Rec r (pattern p) s ρ) _ _ (same_integer_bindings r (pattern p) s ρ)
      (λ bs. same_comprehension r sequence c ρ _ _ (same_one_added r add_item e ρ) bs)
  same_node pattern r (map_comprehension p s c k e) ρ =
      same_bind (tree.bindings_of rec r (pattern p) s ρ) (loose.bindings_of Rec r (pattern p) s ρ) _ _ (same_bindings r (pattern p) s ρ)
      (λ bs. same_comprehension r map c ρ _ _ (same_pair_added r k e ρ) bs)
  same_node pattern r (application a b) ρ = same_both a b ρ _ _ (λ v w. same_at r (apply_to v w))
  same_node pattern r (quoted n) ρ = same_give (quote n)
  same_node pattern r no_expression ρ = same_stop 20 r

same_to : (s : Sheet) (n r : ℕ) (ρ : State) → Equal (tree.meaning_to s n r ρ) (loose.loose_to s n r ρ)
unfolding tree.meaning_to loose.loose_to
same_to s zero r ρ = same_stop 20 r
same_to s (suc n) r ρ = same_node (λ a σ. tree.meaning_to s n a σ) (λ a σ. loose.loose_to s n a σ) (λ a σ. same_to s n a σ) s.pattern r (s.node r) ρ

-- The outcomes at the leaves of a record's tree are exactly those of its loose meaning.
pub agreement : (s : Sheet) (r : ℕ) (ρ : State) (o : Outcome Value) → Gives (tree.meaning s r ρ) o ↔ loose.loose_meaning s r ρ o
unfolding tree.meaning loose.loose_meaning
agreement s r ρ o = same_to s (suc r) r ρ o

-- THEOREM: the loose meaning of a record is what it says over the loose meanings of the records that it names. No bound is in it.
pub loose_meaning_is : (s : Sheet) → Downward s → (r : ℕ) (ρ : State) (o : Outcome Value) → loose.loose_meaning s r ρ o ↔ loose_of s.pattern (λ a σ. loose.loose_meaning s a σ) r (s.node r) ρ o
loose_meaning_is s d r ρ o = (
  λ h. (said o).0 (subst (λ t. Gives t o) (meaning_is s d r ρ) ((agreement s r ρ o).1 h)),
  λ h. (agreement s r ρ o).0 (subst (λ t. Gives t o) (sym (meaning_is s d r ρ)) ((said o).1 h)),
)
  where
    said : Equal (tree.means s.pattern (λ a σ. tree.meaning s a σ) r (s.node r) ρ) (loose_of s.pattern (λ a σ. loose.loose_meaning s a σ) r (s.node r) ρ)
    said = same_node (λ a σ. tree.meaning s a σ) (λ a σ. loose.loose_meaning s a σ) (λ a σ. agreement s a σ) s.pattern r (s.node r) ρ
