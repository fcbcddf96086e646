-- What evaluating a record comes to: a refusal of a record that it comes to is its own, and 24 is a let-be's alone.
use Rattle.std.specs.Prelude.{◌≡◌, refl, Bool, ◌⊎◌, ℕ, zero, suc, ◌<◌, ltb, eqb, length, get_or}
use Rattle.std.proofs.Common.{sym, subst, inl, inr, ⊎_elim, arith}
use Rattle.std.proofs.Math.Bool.{true, false, cond}
use Rattle.std.proofs.Math.Option.{Option, none as absent, some}
use mathlib.Core.List.{List, [], ◌∷◌}
use Rattle.prelude.proofs.Absurd.{impossible}
use Rattle.choices.specs.Tree.{Tree, give, stop, bind, gave, stopped, beyond, follow}
use Rattle.choices.proofs.Trees.{run_through, run_stopped, stopped_out}
use Rattle.values.specs.Value.{Kind, set, sequence, map, Value, boolean, collection, Items, none, more}
use Rattle.operators.specs.Answer.{Answer, is, refused, Built, built, stopped as unbuilt, as_boolean, as_integer, as_set}
use Rattle.operators.specs.Booleans.{Left, settles, leaves, left, right}
use Rattle.operators.specs.Sets.{range_of}
use Rattle.operators.specs.Maps.{apply_to}
use Rattle.operators.specs.Enumerations.{add_member, add_item, add_entry}
use Rattle.operators.specs.Operators.{unary, binary}
use Rattle.patterns.specs.Binding.{Binding, nothing}
use Rattle.patterns.specs.Pattern.{Pattern, loose, list_of}
use Rattle.patterns.specs.Binder.{Formed, bound, refused as unformed, formed}
use Rattle.meaning.specs.Node.{Node, Quantifier, forall, exists, exists1, truth, whole, named, unary_of, binary_of, connective, if, enumeration, range, let_in, let_be, quantified, iota, set_comprehension, sequence_comprehension, map_comprehension, application, quoted, no_expression}
use Rattle.meaning.specs.State.{State, under, value_in}
use Rattle.meaning.specs.Meaning.{Sheet, meaning, enumerated, pattern_name}
use Rattle.meaning.specs.Meaning as tree
use Rattle.meaning.specs.Reaches.{Point, point, Points, nowhere, evaluates, ◌also◌, after}
use Rattle.meaning.specs.Reaches as points
use Rattle.meaning.proofs.Laws.Equation.{AllBelow, NodesLower}
use Rattle.meaning.proofs.Laws.Numbers.{Answered, BuiltSo, LeftSo, unary_operator_is, binary_operator_is, range_number, right_number, left_number, apply_number, entry_number, member_number, item_number}
use Rattle.meaning.proofs.Laws.Closed.{FormedSo, formed_number, enumerated_number}

-- Evaluating at the point x ends in the refusal n at p.
abbrev pub Stops : Sheet → Point → ℕ → ℕ → List ℕ → Type 0
Stops s x n p m = follow (meaning s x.at x.state) x.allowed x.entries ≡ stopped n p m

module _ (s : Sheet) (r : ℕ) (Own : ℕ → Type 0) where
  -- S are the points that t comes to: their records are below r, a refusal at one of them is t's, and where t ends in 24, one of them does, or the
  -- refusal is r's own.
  pub record Told (S : Points) {A : Type 0} (t : Tree A) : Type 0 where
    pub lower : (k : ℕ) (l : List ℕ) (x : Point) → S k l x → x.at < r
    pub ends : (k : ℕ) (l : List ℕ) (x : Point) → S k l x → (n p : ℕ) (m : List ℕ) → Stops s x n p m → follow t k l ≡ stopped n p m
    pub comes : (k : ℕ) (l : List ℕ) (p : ℕ) (m : List ℕ) → follow t k l ≡ stopped 24 p m → ((x : Point) × S k l x × Stops s x 24 p m) ⊎ Own p

  -- ---- one tree after another

  told_then : {A B : Type 0} (S : Points) (t : Tree A) (T : A → Points) (f : A → Tree B) → Told S t → ((a : A) → Told (T a) (f a)) → Told (S also after t T) (bind t f)
  told_then {A} {B} S t T f h g =
      record {
        lower = λ k l x y. ⊎_elim (λ z. h.lower k l x z) (λ w. (g w.0).lower w.1 w.2 x w.4) y;
        ends = λ k l x y n p m z.
            ⊎_elim
            (λ w. run_stopped t f k l n p m (h.ends k l x w n p m z))
            (λ w. run_through t f k l (stopped n p m) (w.0, w.1, w.2, w.3, (g w.0).ends w.1 w.2 x w.4 n p m z)) y;
        comes = λ k l p m e.
            ⊎_elim
            (λ d. ⊎_elim (λ w. inl (w.0, inl w.1, w.2)) (λ o. inr o) (h.comes k l p m d))
            (λ w. ⊎_elim (λ v. inl (v.0, inr (w.0, w.1, w.2, w.3, v.1), v.2)) (λ o. inr o) ((g w.0).comes w.1 w.2 p m w.4))
            (stopped_out t f k l 24 p m e);
      }

  -- One tree after another, where the first comes to no point.
  told_after : {A B : Type 0} (t : Tree A) (T : A → Points) (f : A → Tree B) → Told nowhere t → ((a : A) → Told (T a) (f a)) → Told (after t T) (bind t f)
  told_after t T f h g =
      let w = told_then nowhere t T f h g in
      record {
        lower = λ k l x y. w.lower k l x (inr y);
        ends = λ k l x y. w.ends k l x (inr y);
        comes = λ k l p m e. ⊎_elim (λ v. inl (v.0, ⊎_elim (λ z. absurd z) (λ y. y) v.1, v.2)) (λ o. inr o) (w.comes k l p m e);
      }

  -- One tree after another, where the second comes to no point.
  told_last : {A B : Type 0} (S : Points) (t : Tree A) (f : A → Tree B) → Told S t → ((a : A) → Told nowhere (f a)) → Told S (bind t f)
  told_last S t f h g =
      let w = told_then S t (λ a. nowhere) f h g in
      record {
        lower = h.lower;
        ends = λ k l x y. w.ends k l x (inl y);
        comes = λ k l p m e. ⊎_elim (λ v. inl (v.0, ⊎_elim (λ y. y) (λ z. absurd z.4) v.1, v.2)) (λ o. inr o) (w.comes k l p m e);
      }

  told_cond : {A : Type 0} (b : Bool) (S T : Points) (t u : Tree A) → Told S t → Told T u → Told (cond b S T) (cond b t u)
  told_cond true S T t u h g = h
  told_cond false S T t u h g = g

  -- ---- trees that come to no point

  told_none : {A : Type 0} (t : Tree A) → ((k : ℕ) (l : List ℕ) (p : ℕ) (m : List ℕ) → follow t k l ≡ stopped 24 p m → Own p) → Told nowhere t
  told_none t h = record { lower = λ k l x y. absurd y; ends = λ k l x y. absurd y; comes = λ k l p m e. inr (h k l p m e) }

  told_give : {A : Type 0} (a : A) → Told nowhere (give a)
  told_give a = told_none (give a) (λ k l p m e. impossible cc)

  told_stop : {A : Type 0} (n q : ℕ) → (n ≡ 24 → ⊥) → Told nowhere {A = A} (stop n q)
  told_stop {A} n q h = told_none {A = A} (stop n q) (λ k l p m e. let d : n ≡ 24 = cc in absurd (h d))

  told_at : (a : Answer) → Answered a → Told nowhere (tree.at r a)
  told_at (is v) h = told_give v
  told_at (refused n) h = told_stop n r h.2

  told_built : (b : Built) → BuiltSo b → Told nowhere (tree.built_at r b)
  told_built (built vs) h = told_give vs
  told_built (unbuilt n) h = told_stop n r h.2

  told_else : {A : Type 0} (n : ℕ) (x : Option A) → (n ≡ 24 → ⊥) → Told nowhere (tree.or_else n r x)
  told_else n absent h = told_stop n r h
  told_else n (some a) h = told_give a

  told_20 : {A : Type 0} (x : Option A) → Told nowhere (tree.or_else 20 r x)
  told_20 x = told_else 20 x (λ e. omega arith)

  told_formed : (x : Formed) → FormedSo x → Told nowhere (tree.formed_at r x)
  told_formed (bound bs) h = told_give bs
  told_formed (unformed n) h = told_stop n r h.2

  told_chosen : (bs : List Binding) → Told nowhere (tree.chosen_binding r bs)
  told_chosen bs = told_none (tree.chosen_binding r bs) never_24
    where
      never_24 : (k : ℕ) (l : List ℕ) (p : ℕ) (m : List ℕ) → follow (tree.chosen_binding r bs) k l ≡ stopped 24 p m → Own p
      never_24 zero l p m e = let z : ◌≡◌ {A = ℕ} 31 24 = cc in absurd (omega arith)
      never_24 (suc k) [] p m e = impossible cc
      never_24 (suc k) (c ∷ l) p m e = go (ltb c (length bs)) e
        where
          go : (b : Bool) → cond b (gave (get_or bs c nothing) k l) (beyond r (length bs) (c ∷ l)) ≡ stopped 24 p m → Own p
          go true d = impossible cc
          go false d = impossible cc

  told_matched : (b : Bool) (bs : List Binding) → Told nowhere (tree.matched r b bs)
  told_matched b [] = told_stop 23 r (λ e. omega arith)
  told_matched true (β ∷ bs) = told_chosen (β ∷ bs)
  told_matched false (β ∷ bs) = told_give β

  told_satisfied : Own r → (bs : List Binding) → Told nowhere (tree.satisfied r bs)
  told_satisfied own [] = told_none (stop 24 r) (λ k l p m e. let d : r ≡ p = cc in subst Own d own)
  told_satisfied own (β ∷ bs) = told_chosen (β ∷ bs)

  told_unique : (p : Pattern) (bs : List Binding) → Told nowhere (tree.unique r p bs)
  told_unique p [] = told_stop 25 r (λ e. omega arith)
  told_unique p (β ∷ []) = told_else 25 (value_in β (pattern_name p)) (λ e. omega arith)
  told_unique p (β ∷ γ ∷ bs) = told_stop 25 r (λ e. omega arith)

  told_integers : (vs : Items) → Told nowhere (tree.integers_at r vs)
  unfolding tree.integers_at
  told_integers none = told_give none
  told_integers (more v vs) = told_last nowhere (tree.or_else 20 r (as_integer v)) _ (told_20 (as_integer v)) (λ z. told_last nowhere (tree.integers_at r vs) _ (told_integers vs) (λ ws. told_give (more v ws)))

  -- ---- records

  abbrev rec : tree.Evaluation
  rec a σ = meaning s a σ

  told_record : (a : ℕ) (ρ : State) → a < r → Told (evaluates a ρ) (rec a ρ)
  told_record a ρ h =
      record {
        lower = λ k l x e. subst (λ (y : Point). y.at < r) (sym e) h;
        ends = λ k l x e n p m z. subst (λ (y : Point). Stops s y n p m) e z;
        comes = λ k l p m e. inl (point a ρ k l, refl, e);
      }

  told_all : (os : List ℕ) (ρ : State) → AllBelow r os → Told (points.all_of s r os ρ) (tree.all_of rec os ρ)
  unfolding points.all_of tree.all_of
  told_all [] ρ h = told_give none
  told_all (a ∷ os) ρ h =
      told_then (evaluates a ρ) (rec a ρ) (λ v. points.all_of s r os ρ) _ (told_record a ρ h.0)
      (λ v. told_last (points.all_of s r os ρ) (tree.all_of rec os ρ) _ (told_all os ρ h.1) (λ vs. told_give (more v vs)))

  -- Two records one after the other, and then a tree that comes to no point.
  told_two : {A : Type 0} (a b : ℕ) (ρ : State) (f : Value → Value → Tree A) → a < r → b < r → ((v w : Value) → Told nowhere (f v w)) → Told (points.both_of s r a b ρ) (bind (rec a ρ) (λ v. bind (rec b ρ) (λ w. f v w)))
  told_two a b ρ f h i g =
      told_then (evaluates a ρ) (rec a ρ) (λ v. evaluates b ρ) (λ v. bind (rec b ρ) (λ w. f v w)) (told_record a ρ h)
      (λ v. told_last (evaluates b ρ) (rec b ρ) (λ w. f v w) (told_record b ρ i) (λ w. g v w))

  told_right : (b : ℕ) (ρ : State) → b < r → (x : Left) → LeftSo x → Told (points.right_of s r b ρ x) (tree.right_of rec r b ρ x)
  told_right b ρ h (settles a) n = told_at a n
  told_right b ρ h leaves n = told_last (evaluates b ρ) (rec b ρ) _ (told_record b ρ h) (λ w. told_at (right w) (right_number w))

  -- ---- binders

  told_holds : (c : ℕ) (ρ : State) (β : Binding) → c < r → Told (evaluates c (under ρ β)) (tree.holds rec r c ρ β)
  told_holds c ρ β h = told_last (evaluates c (under ρ β)) (rec c (under ρ β)) _ (told_record c (under ρ β) h) (λ v. told_20 (as_boolean v))

  told_bindings : (p : Pattern) (t : ℕ) (ρ : State) → t < r → Told (evaluates t ρ) (tree.bindings_of rec r p t ρ)
  told_bindings p t ρ h =
      told_last (evaluates t ρ) (rec t ρ) _ (told_record t ρ h)
      (λ v. told_last nowhere (tree.members_at r v) _ (told_20 (as_set v)) (λ vs. told_formed (formed p (list_of vs)) (formed_number p (list_of vs))))

  told_integer_bindings : (p : Pattern) (t : ℕ) (ρ : State) → t < r → Told (evaluates t ρ) (tree.integer_bindings rec r p t ρ)
  told_integer_bindings p t ρ h =
      told_last (evaluates t ρ) (rec t ρ) _ (told_record t ρ h)
      (λ v. told_last nowhere (tree.members_at r v) _ (told_20 (as_set v))
      (λ vs. told_last nowhere (tree.integers_at r vs) _ (told_integers vs) (λ ws. told_formed (formed p (list_of ws)) (formed_number p (list_of ws)))))

  told_condition : {A : Type 0} (c : ℕ) (ρ : State) (β : Binding) (T : Bool → Points) (f : Bool → Tree A) → c < r → ((b : Bool) → Told (T b) (f b)) → Told (points.condition s r c ρ β T) (bind (tree.holds rec r c ρ β) f)
  told_condition c ρ β T f h g = told_then (evaluates c (under ρ β)) (tree.holds rec r c ρ β) T f (told_holds c ρ β h) g

  told_binder : {A : Type 0} (p t : ℕ) (ρ : State) (T : List Binding → Points) (f : List Binding → Tree A) → t < r → ((bs : List Binding) → Told (T bs) (f bs)) → Told (points.binder s r p t ρ T) (bind (tree.bindings_of rec r (s.pattern p) t ρ) f)
  told_binder p t ρ T f h g = told_then (evaluates t ρ) (tree.bindings_of rec r (s.pattern p) t ρ) T f (told_bindings (s.pattern p) t ρ h) g

  pub told_under_all : (c : ℕ) (ρ : State) (bs : List Binding) → c < r → Told (points.under_all s r c ρ bs) (tree.satisfying rec r c ρ bs)
  unfolding points.under_all tree.satisfying
  told_under_all c ρ [] h = told_give []
  told_under_all c ρ (β ∷ bs) h =
      told_condition c ρ β (λ b. points.under_all s r c ρ bs) _ h
      (λ b. told_last (points.under_all s r c ρ bs) (tree.satisfying rec r c ρ bs) _ (told_under_all c ρ bs h) (λ sat. told_give (cond b (β ∷ sat) sat)))

  told_until_false : (c : ℕ) (ρ : State) (bs : List Binding) → c < r → Told (points.until_false s r c ρ bs) (tree.until_false (tree.holds rec r c ρ) bs)
  unfolding points.until_false tree.until_false
  told_until_false c ρ [] h = told_give true
  told_until_false c ρ (β ∷ bs) h =
      told_condition c ρ β _ _ h
      (λ b. told_cond b (points.until_false s r c ρ bs) nowhere (tree.until_false (tree.holds rec r c ρ) bs) (give false) (told_until_false c ρ bs h) (told_give false))

  told_until_true : (c : ℕ) (ρ : State) (bs : List Binding) → c < r → Told (points.until_true s r c ρ bs) (tree.until_true (tree.holds rec r c ρ) bs)
  unfolding points.until_true tree.until_true
  told_until_true c ρ [] h = told_give false
  told_until_true c ρ (β ∷ bs) h =
      told_condition c ρ β _ _ h
      (λ b. told_cond b nowhere (points.until_true s r c ρ bs) (give true) (tree.until_true (tree.holds rec r c ρ) bs) (told_give true) (told_until_true c ρ bs h))

  told_quantify : (q : Quantifier) (c : ℕ) (ρ : State) (bs : List Binding) → c < r → Told (points.quantify s r q c ρ bs) (tree.quantify q rec r c ρ bs)
  told_quantify forall c ρ bs h = told_until_false c ρ bs h
  told_quantify exists c ρ bs h = told_until_true c ρ bs h
  told_quantify exists1 c ρ bs h = told_last (points.under_all s r c ρ bs) (tree.satisfying rec r c ρ bs) _ (told_under_all c ρ bs h) (λ sat. told_give (eqb (length sat) 1))

  told_collected : (c : ℕ) (ρ : State) (added : Binding → Points) (add : Items → Binding → Tree Items) → c < r → ((vs : Items) (β : Binding) → Told (added β) (add vs β)) → (vs : Items) (bs : List Binding)
      → Told (points.collected s r c ρ added add vs bs) (tree.collected (tree.holds rec r c ρ) add vs bs)
  unfolding points.collected tree.collected
  told_collected c ρ added add h g vs [] = told_give vs
  told_collected c ρ added add h g vs (β ∷ bs) =
      told_condition c ρ β _ _ h
      (λ b.
      told_cond b (added β also after (add vs β) (λ ws. points.collected s r c ρ added add ws bs)) (points.collected s r c ρ added add vs bs) (bind (add vs β) (λ ws. tree.collected (tree.holds rec r c ρ) add ws bs)) (tree.collected (tree.holds rec r c ρ) add vs bs)
      (told_then (added β) (add vs β) (λ ws. points.collected s r c ρ added add ws bs) _ (g vs β) (λ ws. told_collected c ρ added add h g ws bs))
      (told_collected c ρ added add h g vs bs))

  told_comprehension : (k : Kind) (c : ℕ) (ρ : State) (added : Binding → Points) (add : Items → Binding → Tree Items) → c < r → ((vs : Items) (β : Binding) → Told (added β) (add vs β)) → (bs : List Binding)
      → Told (points.collected s r c ρ added add none bs) (tree.comprehension rec r k c ρ add bs)
  told_comprehension k c ρ added add h g bs =
      told_last (points.collected s r c ρ added add none bs) (tree.collected (tree.holds rec r c ρ) add none bs) _ (told_collected c ρ added add h g none bs) (λ vs. told_give (collection k vs))

  told_one : (add : Items → Value → Built) → ((vs : Items) (v : Value) → BuiltSo (add vs v)) → (e : ℕ) (ρ : State) → e < r → (vs : Items) (β : Binding) → Told (points.element s r e ρ β) (tree.add_one rec r add e ρ vs β)
  told_one add g e ρ h vs β = told_last (evaluates e (under ρ β)) (rec e (under ρ β)) _ (told_record e (under ρ β) h) (λ v. told_built (add vs v) (g vs v))

  told_pair : (k e : ℕ) (ρ : State) → k < r → e < r → (vs : Items) (β : Binding) → Told (points.pair s r k e ρ β) (tree.add_pair rec r k e ρ vs β)
  told_pair k e ρ h i vs β = told_two k e (under ρ β) _ h i (λ key v. told_built (add_entry vs key v) (entry_number vs key v))

  -- ---- every kind

  told_let_be : (c b : ℕ) (ρ : State) → Own r → c < r → b < r → (bs : List Binding)
      → Told (points.under_all s r c ρ bs also after (tree.satisfying rec r c ρ bs) (λ sat. after (tree.satisfied r sat) (λ β. evaluates b (under ρ β)))) (bind (tree.satisfying rec r c ρ bs) (λ sat. bind (tree.satisfied r sat) (λ β. rec b (under ρ β))))
  told_let_be c b ρ own h i bs =
      told_then (points.under_all s r c ρ bs) (tree.satisfying rec r c ρ bs) (λ sat. after (tree.satisfied r sat) (λ β. evaluates b (under ρ β))) _ (told_under_all c ρ bs h)
      (λ sat. told_after (tree.satisfied r sat) (λ β. evaluates b (under ρ β)) (λ β. rec b (under ρ β)) (told_satisfied own sat) (λ β. told_record b (under ρ β) i))

  -- THEOREM: the points of a record are those that its tree comes to, and 24 is its own only where it is a let-be.
  pub told_node : (n : Node) → ((p t c b : ℕ) → n ≡ let_be p t c b → Own r) → NodesLower r n → (ρ : State) → Told (points.evaluated s r n ρ) (tree.means s.pattern rec r n ρ)
  unfolding points.evaluated tree.means
  told_node (truth b) own h ρ = told_give (boolean b)
  told_node (whole z) own h ρ = told_give _
  told_node (named x) own h ρ = told_20 (value_in ρ x)
  told_node (unary_of op a) own h ρ = told_last (evaluates a ρ) (rec a ρ) _ (told_record a ρ h.plain_ones.0) (λ v. told_at (unary op v) (unary_operator_is op v))
  told_node (binary_of op a b) own h ρ = told_two a b ρ _ h.plain_ones.0 h.plain_ones.1.0 (λ v w. told_at (binary op v w) (binary_operator_is op v w))
  told_node (connective c a b) own h ρ =
      told_then (evaluates a ρ) (rec a ρ) (λ v. points.right_of s r b ρ (left c v)) _ (told_record a ρ h.plain_ones.0) (λ v. told_right b ρ h.plain_ones.1.0 (left c v) (left_number c v))
  told_node (if t a b) own h ρ =
      told_then (evaluates t ρ) (rec t ρ) (λ v. after (tree.is_true r v) (λ y. cond y (evaluates a ρ) (evaluates b ρ))) _ (told_record t ρ h.plain_ones.0)
      (λ v. told_after (tree.is_true r v) (λ y. cond y (evaluates a ρ) (evaluates b ρ)) (λ y. cond y (rec a ρ) (rec b ρ)) (told_20 (as_boolean v))
      (λ y. told_cond y (evaluates a ρ) (evaluates b ρ) (rec a ρ) (rec b ρ) (told_record a ρ h.plain_ones.1.0) (told_record b ρ h.plain_ones.1.1.0)))
  told_node (enumeration k os) own h ρ = told_last (points.all_of s r os ρ) (tree.all_of rec os ρ) _ (told_all os ρ h.plain_ones) (λ vs. told_at (enumerated k vs) (enumerated_number k vs))
  told_node (range a b) own h ρ = told_two a b ρ _ h.plain_ones.0 h.plain_ones.1.0 (λ v w. told_at (range_of v w) (range_number v w))
  told_node (let_in p a b) own h ρ =
      told_then (evaluates a ρ) (rec a ρ) (λ v. after (tree.formed_at r (formed (s.pattern p) (v ∷ []))) (λ bs. after (tree.matched r (loose (s.pattern p)) bs) (λ β. evaluates b (under ρ β)))) _ (told_record a ρ h.plain_ones.0)
      (λ v. told_after (tree.formed_at r (formed (s.pattern p) (v ∷ []))) (λ bs. after (tree.matched r (loose (s.pattern p)) bs) (λ β. evaluates b (under ρ β))) _ (told_formed (formed (s.pattern p) (v ∷ [])) (formed_number (s.pattern p) (v ∷ [])))
      (λ bs. told_after (tree.matched r (loose (s.pattern p)) bs) (λ β. evaluates b (under ρ β)) (λ β. rec b (under ρ β)) (told_matched (loose (s.pattern p)) bs) (λ β. told_record b (under ρ β) h.covered_ones.0)))
  told_node (let_be p t c b) own h ρ = told_binder p t ρ _ _ h.plain_ones.0 (λ bs. told_let_be c b ρ (own p t c b refl) h.covered_ones.0 h.covered_ones.1.0 bs)
  told_node (quantified q p t c) own h ρ =
      told_binder p t ρ _ _ h.plain_ones.0 (λ bs. told_last (points.quantify s r q c ρ bs) (tree.quantify q rec r c ρ bs) _ (told_quantify q c ρ bs h.covered_ones.0) (λ b. told_give (boolean b)))
  told_node (iota p t c) own h ρ =
      told_binder p t ρ _ _ h.plain_ones.0 (λ bs. told_last (points.under_all s r c ρ bs) (tree.satisfying rec r c ρ bs) _ (told_under_all c ρ bs h.covered_ones.0) (λ sat. told_unique (s.pattern p) sat))
  told_node (set_comprehension p t c e) own h ρ =
      told_binder p t ρ _ _ h.plain_ones.0
      (λ bs. told_comprehension set c ρ (points.element s r e ρ) (tree.add_one rec r add_member e ρ) h.covered_ones.0 (told_one add_member member_number e ρ h.covered_ones.1.0) bs)
  told_node (sequence_comprehension p t c e) own h ρ =
      told_then (evaluates t ρ) (tree.integer_bindings rec r (s.pattern p) t ρ) _ _ (told_integer_bindings (s.pattern p) t ρ h.plain_ones.0)
      (λ bs. told_comprehension sequence c ρ (points.element s r e ρ) (tree.add_one rec r add_item e ρ) h.covered_ones.0 (told_one add_item item_number e ρ h.covered_ones.1.0) bs)
  told_node (map_comprehension p t c k e) own h ρ =
      told_binder p t ρ _ _ h.plain_ones.0
      (λ bs. told_comprehension map c ρ (points.pair s r k e ρ) (tree.add_pair rec r k e ρ) h.covered_ones.0 (told_pair k e ρ h.covered_ones.1.0 h.covered_ones.1.1.0) bs)
  told_node (application a b) own h ρ = told_two a b ρ _ h.plain_ones.0 h.plain_ones.1.0 (λ v w. told_at (apply_to v w) (apply_number v w))
  told_node (quoted n) own h ρ = told_give _
  told_node no_expression own h ρ = told_stop 20 r (λ e. omega arith)
