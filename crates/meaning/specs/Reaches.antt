-- Document 01, "Evaluation": the records that a run of a sheet comes to, each in its state, with the choices still allowed and the entries left.
-- It covers every record that is evaluated, conditions too. A record that is evaluated under several bindings is come to once under each.
use Rattle.std.specs.Prelude.{◌≡◌, Bool, cond, ◌⊎◌, List, [], ◌∷◌, ℕ}
use Rattle.choices.specs.Tree.{Tree, gave, follow, most_choices}
use Rattle.values.specs.Value.{Value, Items, none}
use Rattle.operators.specs.Booleans.{Left, settles, leaves, left}
use Rattle.operators.specs.Enumerations.{add_member, add_item}
use Rattle.patterns.specs.Binding.{Binding}
use Rattle.patterns.specs.Pattern.{loose}
use Rattle.patterns.specs.Binder.{formed}
use Rattle.meaning.specs.Node.{Node, Quantifier, forall, exists, exists1, truth, whole, named, unary_of, binary_of, connective, if, enumeration, range, let_in, let_be, quantified, iota, set_comprehension, sequence_comprehension, map_comprehension, application, quoted, no_expression}
use Rattle.meaning.specs.State.{State, unbound, under}
use Rattle.meaning.specs.Meaning.{Sheet, Evaluation, meaning, is_true, formed_at, bindings_of, integer_bindings, holds, satisfying, matched, satisfied, add_one, add_pair}
use Rattle.meaning.specs.Read.{sheet}
use Rattle.meaning.specs.Service.{last}

-- ---- points

-- Where a run stands: at a record, in a state, with so many choices still allowed and these entries left.
pub record Point : Type 0 where
  pub at : ℕ
  pub state : State
  pub allowed : ℕ
  pub entries : List ℕ

abbrev pub point : ℕ → State → ℕ → List ℕ → Point
point r ρ k l = record { at = r; state = ρ; allowed = k; entries = l }

-- The points that something comes to, from k choices allowed and the entries l left: `S k l x` says that x is one of them.
abbrev pub Points : Type 1
Points = ℕ → List ℕ → Point → Type 0

-- No point; the record a in the state ρ; the points of S and those of T.
abbrev pub nowhere : Points
nowhere k l x = ⊥

abbrev pub evaluates : ℕ → State → Points
evaluates a ρ k l x = x ≡ point a ρ k l

infixr 20 ◌also◌
abbrev pub ◌also◌ : Points → Points → Points
◌also◌ S T k l x = S k l x ⊎ T k l x

-- Where t gives a value, the points that f says of it, from the choices and the entries that t leaves.
abbrev pub after : {A : Type 0} → Tree A → (A → Points) → Points
after {A} t f k l x = (a : A) × (j : ℕ) × (m : List ℕ) × (follow t k l ≡ gave a j m) × f a j m x

-- ---- what the record r evaluates, in order

module _ (s : Sheet) (r : ℕ) where
  abbrev rec : Evaluation
  rec a ρ = meaning s a ρ

  -- An operand; and then, where it gives a value, the points that f says of it.
  abbrev pub operand : ℕ → State → (Value → Points) → Points
  operand a ρ f = evaluates a ρ also after (rec a ρ) f

  -- Operands go in written order.
  unfoldable pub all_of : List ℕ → State → Points
  all_of [] ρ = nowhere
  all_of (a ∷ rest) ρ = operand a ρ (λ v. all_of rest ρ)

  abbrev pub both_of : ℕ → ℕ → State → Points
  both_of a b ρ = operand a ρ (λ v. evaluates b ρ)

  -- and, or, =>: the right is evaluated only if the left does not settle it.
  abbrev pub right_of : ℕ → State → Left → Points
  right_of b ρ (settles a) = nowhere
  right_of b ρ leaves = evaluates b ρ

  -- The set operand of a binder; and then, where it gives a set and neither 29 nor 30 comes, the points that f says of the bindings.
  abbrev pub binder : ℕ → ℕ → State → (List Binding → Points) → Points
  binder p t ρ f = evaluates t ρ also after (bindings_of rec r (s.pattern p) t ρ) f

  -- The condition under a binding; and then, where it is true or false, the points that f says of that.
  abbrev pub condition : ℕ → State → Binding → (Bool → Points) → Points
  condition c ρ β f = evaluates c (under ρ β) also after (holds rec r c ρ β) f

  -- The condition under each binding in order. forall stops at the first false, exists at the first true.
  unfoldable pub under_all : ℕ → State → List Binding → Points
  under_all c ρ [] = nowhere
  under_all c ρ (β ∷ bs) = condition c ρ β (λ t. under_all c ρ bs)

  unfoldable pub until_false : ℕ → State → List Binding → Points
  until_false c ρ [] = nowhere
  until_false c ρ (β ∷ bs) = condition c ρ β (λ t. cond t (until_false c ρ bs) nowhere)

  unfoldable pub until_true : ℕ → State → List Binding → Points
  until_true c ρ [] = nowhere
  until_true c ρ (β ∷ bs) = condition c ρ β (λ t. cond t nowhere (until_true c ρ bs))

  abbrev pub quantify : Quantifier → ℕ → State → List Binding → Points
  quantify forall c ρ bs = until_false c ρ bs
  quantify exists c ρ bs = until_true c ρ bs
  quantify exists1 c ρ bs = under_all c ρ bs

  -- Comprehensions go binding by binding: the condition; where it is true, the points of what is added to vs; and then the next binding.
  unfoldable pub collected : ℕ → State → (Binding → Points) → (Items → Binding → Tree Items) → Items → List Binding → Points
  collected c ρ added add vs [] = nowhere
  collected c ρ added add vs (β ∷ bs) =
      condition c ρ β (λ t. cond t (added β also after (add vs β) (λ ws. collected c ρ added add ws bs)) (collected c ρ added add vs bs))

  -- An element under a binding; a key and then a value.
  abbrev pub element : ℕ → State → Binding → Points
  element e ρ β = evaluates e (under ρ β)

  abbrev pub pair : ℕ → ℕ → State → Binding → Points
  pair k e ρ β = both_of k e (under ρ β)

  -- Every kind. A let and a let-be evaluate their body under the binding that is chosen.
  unfoldable pub evaluated : Node → State → Points
  evaluated (truth b) ρ = nowhere
  evaluated (whole z) ρ = nowhere
  evaluated (named x) ρ = nowhere
  evaluated (unary_of op a) ρ = evaluates a ρ
  evaluated (binary_of op a b) ρ = both_of a b ρ
  evaluated (connective c a b) ρ = operand a ρ (λ v. right_of b ρ (left c v))
  evaluated (if t a b) ρ = operand t ρ (λ v. after (is_true r v) (λ y. cond y (evaluates a ρ) (evaluates b ρ)))
  evaluated (enumeration k operands) ρ = all_of operands ρ
  evaluated (range a b) ρ = both_of a b ρ
  evaluated (let_in p a b) ρ =
      operand a ρ (λ v. after (formed_at r (formed (s.pattern p) (v ∷ []))) (λ bs. after (matched r (loose (s.pattern p)) bs) (λ β. evaluates b (under ρ β))))
  evaluated (let_be p t c b) ρ =
      binder p t ρ (λ bs. under_all c ρ bs also after (satisfying rec r c ρ bs) (λ sat. after (satisfied r sat) (λ β. evaluates b (under ρ β))))
  evaluated (quantified q p t c) ρ = binder p t ρ (λ bs. quantify q c ρ bs)
  evaluated (iota p t c) ρ = binder p t ρ (λ bs. under_all c ρ bs)
  evaluated (set_comprehension p t c e) ρ = binder p t ρ (λ bs. collected c ρ (element e ρ) (add_one rec r add_member e ρ) none bs)
  evaluated (sequence_comprehension p t c e) ρ =
      evaluates t ρ also after (integer_bindings rec r (s.pattern p) t ρ) (λ bs. collected c ρ (element e ρ) (add_one rec r add_item e ρ) none bs)
  evaluated (map_comprehension p t c k e) ρ = binder p t ρ (λ bs. collected c ρ (pair k e ρ) (add_pair rec r k e ρ) none bs)
  evaluated (application a b) ρ = both_of a b ρ
  evaluated (quoted n) ρ = nowhere
  evaluated no_expression ρ = nowhere

-- Evaluating at the point x comes to the point y, of a record that the record of x names.
abbrev pub Evaluates : Sheet → Point → Point → Type 0
Evaluates s x y = evaluated s x.at (s.node x.at) x.state x.allowed x.entries y

-- ---- a run

-- The run of a table under a list starts at the last record, with no name bound, all 64 choices allowed and the whole list. From a point that it
-- comes to it comes to those that evaluating there comes to.
pub data Reaches (table list : List ℕ) : Point → Type 0 where
  start : Reaches table list (point (last (sheet table)) unbound most_choices list)
  onward : {x y : Point} → Reaches table list x → Evaluates (sheet table) x y → Reaches table list y
