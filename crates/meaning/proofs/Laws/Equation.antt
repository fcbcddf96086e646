-- In a sheet whose records evaluate only lower ones, the meaning of a record is what it says over the meanings of its operands.
use Rattle.std.specs.Prelude.{◌≡◌, Bool, true, false, cond, ℕ, zero, suc, ◌<◌}
use Rattle.std.proofs.Math.Path.{refl}
use Rattle.std.proofs.Common.{ap, ◌∙◌, arith}
use mathlib.Core.List.{List, [], ◌∷◌}
use Rattle.choices.specs.Tree.{Tree, give, bind}
use Rattle.choices.proofs.Trees.{bind_cong}
use Rattle.values.specs.Value.{Kind, set, sequence, map, Value, Items, none}
use Rattle.operators.specs.Answer.{Built}
use Rattle.operators.specs.Booleans.{Left, settles, leaves, left}
use Rattle.operators.specs.Enumerations.{add_member, add_item}
use Rattle.patterns.specs.Binding.{Binding}
use Rattle.patterns.specs.Pattern.{Pattern, loose}
use Rattle.patterns.specs.Binder.{formed}
use Rattle.meaning.specs.Node.{Node, Quantifier, forall, exists, exists1, truth, whole, named, unary_of, binary_of, connective, if, enumeration, range, let_in, let_be, quantified, iota, set_comprehension, sequence_comprehension, map_comprehension, application, quoted, no_expression}
use Rattle.meaning.specs.State.{State, under}
use Rattle.meaning.specs.Meaning.{Evaluation, all_of, both_of, right_of, is_true, formed_at, bindings_of, holds, satisfying, matched, satisfied, until_false, until_true, quantify, collected, add_one, add_pair, integer_bindings, comprehension, means, Sheet, meaning_to, meaning}

-- ---- what a record evaluates

-- The records that a node evaluates in its own state. (A pattern is not evaluated.)
abbrev pub plain_operands : Node → List ℕ
plain_operands (truth b) = []
plain_operands (whole z) = []
plain_operands (named x) = []
plain_operands (unary_of op a) = a ∷ []
plain_operands (binary_of op a b) = a ∷ b ∷ []
plain_operands (connective c a b) = a ∷ b ∷ []
plain_operands (if t a b) = t ∷ a ∷ b ∷ []
plain_operands (enumeration k operands) = operands
plain_operands (range a b) = a ∷ b ∷ []
plain_operands (let_in p a b) = a ∷ []
plain_operands (let_be p s c b) = s ∷ []
plain_operands (quantified q p s c) = s ∷ []
plain_operands (iota p s c) = s ∷ []
plain_operands (set_comprehension p s c e) = s ∷ []
plain_operands (sequence_comprehension p s c e) = s ∷ []
plain_operands (map_comprehension p s c k e) = s ∷ []
plain_operands (application a b) = a ∷ b ∷ []
plain_operands (quoted n) = []
plain_operands no_expression = []

-- The records that a binder evaluates under its bindings.
abbrev pub covered : Node → List ℕ
covered (truth b) = []
covered (whole z) = []
covered (named x) = []
covered (unary_of op a) = []
covered (binary_of op a b) = []
covered (connective c a b) = []
covered (if t a b) = []
covered (enumeration k operands) = []
covered (range a b) = []
covered (let_in p a b) = b ∷ []
covered (let_be p s c b) = c ∷ b ∷ []
covered (quantified q p s c) = c ∷ []
covered (iota p s c) = c ∷ []
covered (set_comprehension p s c e) = c ∷ e ∷ []
covered (sequence_comprehension p s c e) = c ∷ e ∷ []
covered (map_comprehension p s c k e) = c ∷ k ∷ e ∷ []
covered (application a b) = []
covered (quoted n) = []
covered no_expression = []

-- L holds of each of these records.
abbrev pub Each : (ℕ → Type 0) → List ℕ → Type 0
Each L [] = Unit {0}
Each L (a ∷ os) = L a × Each L os

abbrev pub AllBelow : ℕ → List ℕ → Type 0
AllBelow r os = Each (λ a. a < r) os

-- Every record evaluates only lower ones.
pub record NodesLower (r : ℕ) (n : Node) : Type 0 where
  pub plain_ones : AllBelow r (plain_operands n)
  pub covered_ones : AllBelow r (covered n)

abbrev pub Downward : Sheet → Type 0
Downward s = (r : ℕ) → NodesLower r (s.node r)

-- ---- two evaluations that agree below r

bind_both : {A B : Type 0} (t u : Tree A) (f g : A → Tree B) → t ≡ u → ((a : A) → f a ≡ g a) → bind t f ≡ bind u g
bind_both t u f g e h = ap (λ x. bind x f) e ∙ bind_cong u f g h

pick_both : {A : Type 0} (b : Bool) (t u : Tree A) (v w : Tree A) → t ≡ u → v ≡ w → cond b t v ≡ cond b u w
pick_both true t u v w e d = e
pick_both false t u v w e d = d

until_false_cong : (f g : Binding → Tree Bool) → ((b : Binding) → f b ≡ g b) → (bs : List Binding) → until_false f bs ≡ until_false g bs
unfolding until_false
until_false_cong f g h [] = refl
until_false_cong f g h (b ∷ bs) = bind_both (f b) (g b) _ _ (h b) (λ t. pick_both t (until_false f bs) (until_false g bs) (give false) (give false) (until_false_cong f g h bs) refl)

until_true_cong : (f g : Binding → Tree Bool) → ((b : Binding) → f b ≡ g b) → (bs : List Binding) → until_true f bs ≡ until_true g bs
unfolding until_true
until_true_cong f g h [] = refl
until_true_cong f g h (b ∷ bs) = bind_both (f b) (g b) _ _ (h b) (λ t. pick_both t (give true) (give true) (until_true f bs) (until_true g bs) refl (until_true_cong f g h bs))

collected_cong : (f g : Binding → Tree Bool) (add put : Items → Binding → Tree Items) → ((b : Binding) → f b ≡ g b) → ((vs : Items) (b : Binding) → add vs b ≡ put vs b) → (vs : Items) (bs : List Binding) → collected f add vs bs ≡ collected g put vs bs
unfolding collected
collected_cong f g add put h k vs [] = refl
collected_cong f g add put h k vs (b ∷ bs) =
    bind_both (f b) (g b) _ _ (h b)
    (λ t. pick_both t (bind (add vs b) (λ ws. collected f add ws bs)) (bind (put vs b) (λ ws. collected g put ws bs)) (collected f add vs bs) (collected g put vs bs)
    (bind_both (add vs b) (put vs b) _ _ (k vs b) (λ ws. collected_cong f g add put h k ws bs))
    (collected_cong f g add put h k vs bs))

module _ (r : ℕ) (f g : Evaluation) (agree : (a : ℕ) (σ : State) → a < r → f a σ ≡ g a σ) where
  all_cong : (os : List ℕ) → AllBelow r os → (ρ : State) → all_of f os ρ ≡ all_of g os ρ
  unfolding all_of
  all_cong [] h ρ = refl
  all_cong (a ∷ os) h ρ =
      bind_both (f a ρ) (g a ρ) _ _ (agree a ρ h.0) (λ v. bind_both (all_of f os ρ) (all_of g os ρ) _ _ (all_cong os h.1 ρ) (λ vs. refl))

  both_cong : (a b : ℕ) → a < r → b < r → (ρ : State) (k : Value → Value → Tree Value) → both_of f a b ρ k ≡ both_of g a b ρ k
  both_cong a b h i ρ k = bind_both (f a ρ) (g a ρ) _ _ (agree a ρ h) (λ v. bind_both (f b ρ) (g b ρ) _ _ (agree b ρ i) (λ w. refl))

  right_cong : (q b : ℕ) → b < r → (ρ : State) (l : Left) → right_of f q b ρ l ≡ right_of g q b ρ l
  right_cong q b h ρ (settles a) = refl
  right_cong q b h ρ leaves = bind_both (f b ρ) (g b ρ) _ _ (agree b ρ h) (λ w. refl)

  holds_cong : (q c : ℕ) → c < r → (ρ : State) (b : Binding) → holds f q c ρ b ≡ holds g q c ρ b
  holds_cong q c h ρ b = bind_both (f c (under ρ b)) (g c (under ρ b)) _ _ (agree c (under ρ b) h) (λ v. refl)

  bindings_cong : (q : ℕ) (p : Pattern) (s : ℕ) → s < r → (ρ : State) → bindings_of f q p s ρ ≡ bindings_of g q p s ρ
  bindings_cong q p s h ρ = bind_both (f s ρ) (g s ρ) _ _ (agree s ρ h) (λ v. refl)

  integer_bindings_cong : (q : ℕ) (p : Pattern) (s : ℕ) → s < r → (ρ : State) → integer_bindings f q p s ρ ≡ integer_bindings g q p s ρ
  integer_bindings_cong q p s h ρ = bind_both (f s ρ) (g s ρ) _ _ (agree s ρ h) (λ v. refl)

  satisfying_cong : (q c : ℕ) → c < r → (ρ : State) (bs : List Binding) → satisfying f q c ρ bs ≡ satisfying g q c ρ bs
  unfolding satisfying
  satisfying_cong q c h ρ [] = refl
  satisfying_cong q c h ρ (b ∷ bs) =
      bind_both (holds f q c ρ b) (holds g q c ρ b) _ _ (holds_cong q c h ρ b)
      (λ t. bind_both (satisfying f q c ρ bs) (satisfying g q c ρ bs) _ _ (satisfying_cong q c h ρ bs) (λ sat. refl))

  quantify_cong : (k : Quantifier) (q c : ℕ) → c < r → (ρ : State) (bs : List Binding) → quantify k f q c ρ bs ≡ quantify k g q c ρ bs
  quantify_cong forall q c h ρ bs = until_false_cong (holds f q c ρ) (holds g q c ρ) (holds_cong q c h ρ) bs
  quantify_cong exists q c h ρ bs = until_true_cong (holds f q c ρ) (holds g q c ρ) (holds_cong q c h ρ) bs
  quantify_cong exists1 q c h ρ bs = bind_both (satisfying f q c ρ bs) (satisfying g q c ρ bs) _ _ (satisfying_cong q c h ρ bs) (λ sat. refl)

  one_cong : (q : ℕ) (add : Items → Value → Built) (e : ℕ) → e < r → (ρ : State) (vs : Items) (b : Binding) → add_one f q add e ρ vs b ≡ add_one g q add e ρ vs b
  one_cong q add e h ρ vs b = bind_both (f e (under ρ b)) (g e (under ρ b)) _ _ (agree e (under ρ b) h) (λ v. refl)

  pair_cong : (q k e : ℕ) → k < r → e < r → (ρ : State) (vs : Items) (b : Binding) → add_pair f q k e ρ vs b ≡ add_pair g q k e ρ vs b
  pair_cong q k e h i ρ vs b =
      bind_both (f k (under ρ b)) (g k (under ρ b)) _ _ (agree k (under ρ b) h)
      (λ key. bind_both (f e (under ρ b)) (g e (under ρ b)) _ _ (agree e (under ρ b) i) (λ v. refl))

  comprehension_cong : (q : ℕ) (k : Kind) (c : ℕ) → c < r → (ρ : State) (add put : Items → Binding → Tree Items) → ((vs : Items) (b : Binding) → add vs b ≡ put vs b) → (bs : List Binding) → comprehension f q k c ρ add bs ≡ comprehension g q k c ρ put bs
  comprehension_cong q k c h ρ add put e bs =
      bind_both (collected (holds f q c ρ) add none bs) (collected (holds g q c ρ) put none bs) _ _
      (collected_cong (holds f q c ρ) (holds g q c ρ) add put (holds_cong q c h ρ) e none bs) (λ vs. refl)

  node_cong : (pattern : ℕ → Pattern) (q : ℕ) (n : Node) → NodesLower r n → (ρ : State) → means pattern f q n ρ ≡ means pattern g q n ρ
  unfolding means
  node_cong pattern q (truth b) h ρ = refl
  node_cong pattern q (whole z) h ρ = refl
  node_cong pattern q (named x) h ρ = refl
  node_cong pattern q (unary_of op a) h ρ = bind_both (f a ρ) (g a ρ) _ _ (agree a ρ h.plain_ones.0) (λ v. refl)
  node_cong pattern q (binary_of op a b) h ρ = both_cong a b h.plain_ones.0 h.plain_ones.1.0 ρ _
  node_cong pattern q (connective c a b) h ρ = bind_both (f a ρ) (g a ρ) _ _ (agree a ρ h.plain_ones.0) (λ v. right_cong q b h.plain_ones.1.0 ρ (left c v))
  node_cong pattern q (if t a b) h ρ =
      bind_both (f t ρ) (g t ρ) _ _ (agree t ρ h.plain_ones.0)
      (λ v. bind_cong (is_true q v) _ _ (λ y. pick_both y (f a ρ) (g a ρ) (f b ρ) (g b ρ) (agree a ρ h.plain_ones.1.0) (agree b ρ h.plain_ones.1.1.0)))
  node_cong pattern q (enumeration k os) h ρ = bind_both (all_of f os ρ) (all_of g os ρ) _ _ (all_cong os h.plain_ones ρ) (λ vs. refl)
  node_cong pattern q (range a b) h ρ = both_cong a b h.plain_ones.0 h.plain_ones.1.0 ρ _
  node_cong pattern q (let_in p a b) h ρ =
      bind_both (f a ρ) (g a ρ) _ _ (agree a ρ h.plain_ones.0)
      (λ v. bind_cong (formed_at q (formed (pattern p) (v ∷ []))) _ _
      (λ bs. bind_cong (matched q (loose (pattern p)) bs) _ _ (λ β. agree b (under ρ β) h.covered_ones.0)))
  node_cong pattern q (let_be p s c b) h ρ =
      bind_both (bindings_of f q (pattern p) s ρ) (bindings_of g q (pattern p) s ρ) _ _ (bindings_cong q (pattern p) s h.plain_ones.0 ρ)
      (λ bs. bind_both (satisfying f q c ρ bs) (satisfying g q c ρ bs) _ _ (satisfying_cong q c h.covered_ones.0 ρ bs)
      (λ sat. bind_cong (satisfied q sat) _ _ (λ β. agree b (under ρ β) h.covered_ones.1.0)))
  node_cong pattern q (quantified k p s c) h ρ =
      bind_both (bindings_of f q (pattern p) s ρ) (bindings_of g q (pattern p) s ρ) _ _ (bindings_cong q (pattern p) s h.plain_ones.0 ρ)
      (λ bs. bind_both (quantify k f q c ρ bs) (quantify k g q c ρ bs) _ _ (quantify_cong k q c h.covered_ones.0 ρ bs) (λ t. refl))
  node_cong pattern q (iota p s c) h ρ =
      bind_both (bindings_of f q (pattern p) s ρ) (bindings_of g q (pattern p) s ρ) _ _ (bindings_cong q (pattern p) s h.plain_ones.0 ρ)
      (λ bs. bind_both (satisfying f q c ρ bs) (satisfying g q c ρ bs) _ _ (satisfying_cong q c h.covered_ones.0 ρ bs) (λ sat. refl))
  node_cong pattern q (set_comprehension p s c e) h ρ =
      bind_both (bindings_of f q (pattern p) s ρ) (bindings_of g q (pattern p) s ρ) _ _ (bindings_cong q (pattern p) s h.plain_ones.0 ρ)
      (λ bs. comprehension_cong q set c h.covered_ones.0 ρ _ _ (one_cong q add_member e h.covered_ones.1.0 ρ) bs)
  node_cong pattern q (sequence_comprehension p s c e) h ρ =
      bind_both (integer_bindings f q (pattern p) s ρ) (integer_bindings g q (pattern p) s ρ) _ _ (integer_bindings_cong q (pattern p) s h.plain_ones.0 ρ)
      (λ bs. comprehension_cong q sequence c h.covered_ones.0 ρ _ _ (one_cong q add_item e h.covered_ones.1.0 ρ) bs)
  node_cong pattern q (map_comprehension p s c k e) h ρ =
      bind_both (bindings_of f q (pattern p) s ρ) (bindings_of g q (pattern p) s ρ) _ _ (bindings_cong q (pattern p) s h.plain_ones.0 ρ)
      (λ bs. comprehension_cong q map c h.covered_ones.0 ρ _ _ (pair_cong q k e h.covered_ones.1.0 h.covered_ones.1.1.0 ρ) bs)
  node_cong pattern q (application a b) h ρ = both_cong a b h.plain_ones.0 h.plain_ones.1.0 ρ _
  node_cong pattern q (quoted n) h ρ = refl
  node_cong pattern q no_expression h ρ = refl

-- ---- the equation

-- Any bound above a record's number is bound enough.
bound_enough : (s : Sheet) → Downward s → (n m a : ℕ) (ρ : State) → a < n → a < m → meaning_to s n a ρ ≡ meaning_to s m a ρ
unfolding meaning_to
bound_enough s d zero m a ρ h i = absurd (omega arith)
bound_enough s d (suc n) zero a ρ h i = absurd (omega arith)
bound_enough s d (suc n) (suc m) a ρ h i =
    node_cong a (λ b σ. meaning_to s n b σ) (λ b σ. meaning_to s m b σ) (λ b σ j. bound_enough s d n m b σ (omega arith) (omega arith)) s.pattern a (s.node a) (d a) ρ

-- THEOREM: the meaning of a record is what it says over the meanings of the records that it names.
pub meaning_is : (s : Sheet) → Downward s → (r : ℕ) (ρ : State) → meaning s r ρ ≡ means s.pattern (λ a σ. meaning s a σ) r (s.node r) ρ
unfolding meaning meaning_to
meaning_is s d r ρ =
    node_cong r (λ a σ. meaning_to s r a σ) (λ a σ. meaning_to s (suc a) a σ) (λ a σ h. bound_enough s d r (suc a) a σ h (omega arith)) s.pattern r (s.node r) (d r) ρ
