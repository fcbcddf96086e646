-- Document 01, "The loose meaning": the outcomes of a record in a state. It knows no list of choices and no order among them.
-- A set of outcomes is a predicate: `S o` says that o is one of them.
-- Some small functions of `Meaning` are said here again, of outcomes, on purpose: the two definitions share nothing of the trees, and each is read
-- by itself. Only kinds 12 and 13, the lets, say something else than there.
use Rattle.std.specs.Prelude.{◌≡◌, Bool, true, false, cond, ◌⊎◌, List, [], ◌∷◌, ◌++◌, ℕ, zero, suc, eqb, length}
use Rattle.std.proofs.Math.Option.{Option, none as absent, some}
use Rattle.prelude.specs.Membership.{In}
use Rattle.choices.specs.Outcome.{Outcome, value, refusal}
use Rattle.values.specs.Value.{Kind, set, sequence, map, Value, boolean, integer, quote, collection, Items, none, more}
use Rattle.operators.specs.Answer.{Answer, is, refused, Built, built, stopped, as_boolean, as_integer, as_set}
use Rattle.operators.specs.Booleans.{Left, settles, leaves, left, right}
use Rattle.operators.specs.Sets.{range_of}
use Rattle.operators.specs.Maps.{apply_to}
use Rattle.operators.specs.Enumerations.{add_member, add_item, add_entry}
use Rattle.operators.specs.Operators.{unary, binary}
use Rattle.patterns.specs.Binding.{Binding}
use Rattle.patterns.specs.Pattern.{Pattern, list_of}
use Rattle.patterns.specs.Binder.{Formed, bound, refused as unformed, formed}
use Rattle.meaning.specs.Node.{Node, Quantifier, forall, exists, exists1, truth, whole, named, unary_of, binary_of, connective, if, enumeration, range, let_in, let_be, quantified, iota, set_comprehension, sequence_comprehension, map_comprehension, application, quoted, no_expression}
use Rattle.meaning.specs.State.{State, under, value_in}
use Rattle.meaning.specs.Sheet.{Sheet, enumerated, pattern_name}

-- ---- sets of outcomes

abbrev pub Outcomes : Type 0 → Type 1
Outcomes A = Outcome A → Type 0

-- Just this value; just this refusal.
abbrev pub gives : {A : Type 0} → A → Outcomes A
gives a o = o ≡ value a

abbrev pub refuses : {A : Type 0} → ℕ → ℕ → Outcomes A
refuses n r o = o ≡ refusal n r

infixr 20 ◌then◌
-- For a value of the first, the outcomes of what follows, whatever the others gave. A refusal is the outcome, and nothing after it is evaluated.
abbrev pub ◌then◌ : {A B : Type 0} → Outcomes A → (A → Outcomes B) → Outcomes B
◌then◌ {A} {B} S f o = ((a : A) × S (value a) × f a o) ⊎ ((n : ℕ) × (r : ℕ) × S (refusal n r) × (o ≡ refusal n r))

-- The outcomes under each of some bindings.
abbrev pub under_each : {A : Type 0} → List Binding → (Binding → Outcomes A) → Outcomes A
under_each bs f o = (b : Binding) × In b bs × f b o

-- ---- answers at a place

abbrev pub at : ℕ → Answer → Outcomes Value
at r (is v) = gives v
at r (refused n) = refuses n r

abbrev pub built_at : ℕ → Built → Outcomes Items
built_at r (built vs) = gives vs
built_at r (stopped n) = refuses n r

abbrev pub or_else : {A : Type 0} → ℕ → ℕ → Option A → Outcomes A
or_else n r absent = refuses n r
or_else n r (some a) = gives a

-- ---- records other than lets: as under Evaluation

-- What a record's outcomes are, of each record and state.
abbrev pub Meanings : Type 1
Meanings = ℕ → State → Outcomes Value

unfoldable pub all_of : Meanings → List ℕ → State → Outcomes Items
all_of rec [] ρ = gives none
all_of rec (a ∷ rest) ρ = rec a ρ then (λ v. all_of rec rest ρ then (λ vs. gives (more v vs)))

abbrev pub both_of : Meanings → ℕ → ℕ → State → (Value → Value → Outcomes Value) → Outcomes Value
both_of rec a b ρ f = rec a ρ then (λ v. rec b ρ then (λ w. f v w))

abbrev pub right_of : Meanings → ℕ → ℕ → State → Left → Outcomes Value
right_of rec r b ρ (settles a) = at r a
right_of rec r b ρ leaves = rec b ρ then (λ w. at r (right w))

abbrev pub is_true : ℕ → Value → Outcomes Bool
is_true r v = or_else 20 r (as_boolean v)

abbrev pub formed_at : ℕ → Formed → Outcomes (List Binding)
formed_at r (bound bs) = gives bs
formed_at r (unformed n) = refuses n r

abbrev pub bindings_of : Meanings → ℕ → Pattern → ℕ → State → Outcomes (List Binding)
bindings_of rec r p s ρ = rec s ρ then (λ v. or_else 20 r (as_set v) then (λ vs. formed_at r (formed p (list_of vs))))

-- A condition under a binding.
abbrev pub holds : Meanings → ℕ → ℕ → State → Binding → Outcomes Bool
holds rec r c ρ b = rec c (under ρ b) then (λ v. is_true r v)

-- Kinds 16 and 17 test all bindings: those that make the condition true.
unfoldable pub satisfying : Meanings → ℕ → ℕ → State → List Binding → Outcomes (List Binding)
satisfying rec r c ρ [] = gives []
satisfying rec r c ρ (b ∷ bs) = holds rec r c ρ b then (λ t. satisfying rec r c ρ bs then (λ sat. gives (cond t (b ∷ sat) sat)))

unfoldable pub until_false : (Binding → Outcomes Bool) → List Binding → Outcomes Bool
until_false test [] = gives true
until_false test (b ∷ bs) = test b then (λ t. cond t (until_false test bs) (gives false))

unfoldable pub until_true : (Binding → Outcomes Bool) → List Binding → Outcomes Bool
until_true test [] = gives false
until_true test (b ∷ bs) = test b then (λ t. cond t (gives true) (until_true test bs))

abbrev pub quantify : Quantifier → Meanings → ℕ → ℕ → State → List Binding → Outcomes Bool
quantify forall rec r c ρ bs = until_false (holds rec r c ρ) bs
quantify exists rec r c ρ bs = until_true (holds rec r c ρ) bs
quantify exists1 rec r c ρ bs = satisfying rec r c ρ bs then (λ sat. gives (eqb (length sat) 1))

abbrev pub unique : ℕ → Pattern → List Binding → Outcomes Value
unique r p [] = refuses 25 r
unique r p (b ∷ []) = or_else 25 r (value_in b (pattern_name p))
unique r p (b ∷ c ∷ bs) = refuses 25 r

unfoldable pub collected : (Binding → Outcomes Bool) → (Items → Binding → Outcomes Items) → Items → List Binding → Outcomes Items
collected test add vs [] = gives vs
collected test add vs (b ∷ bs) = test b then (λ t. cond t (add vs b then (λ ws. collected test add ws bs)) (collected test add vs bs))

abbrev pub add_one : Meanings → ℕ → (Items → Value → Built) → ℕ → State → Items → Binding → Outcomes Items
add_one rec r add e ρ vs b = rec e (under ρ b) then (λ v. built_at r (add vs v))

abbrev pub add_pair : Meanings → ℕ → ℕ → ℕ → State → Items → Binding → Outcomes Items
add_pair rec r k e ρ vs b = rec k (under ρ b) then (λ key. rec e (under ρ b) then (λ v. built_at r (add_entry vs key v)))

unfoldable pub integers_at : ℕ → Items → Outcomes Items
integers_at r none = gives none
integers_at r (more v vs) = or_else 20 r (as_integer v) then (λ z. integers_at r vs then (λ ws. gives (more v ws)))

abbrev pub integer_bindings : Meanings → ℕ → Pattern → ℕ → State → Outcomes (List Binding)
integer_bindings rec r p s ρ = rec s ρ then (λ v. or_else 20 r (as_set v) then (λ vs. integers_at r vs then (λ ws. formed_at r (formed p (list_of ws)))))

abbrev pub comprehension : Meanings → ℕ → Kind → ℕ → State → (Items → Binding → Outcomes Items) → List Binding → Outcomes Value
comprehension rec r k c ρ add bs = collected (holds rec r c ρ) add none bs then (λ vs. gives (collection k vs))

-- ---- lets

-- Kind 12, for a value of its value operand: 29, 30 or 23 if its bindings call for that, else each outcome of the body under each binding.
abbrev pub body12 : ℕ → (Binding → Outcomes Value) → Formed → Outcomes Value
body12 r body (unformed n) = refuses n r
body12 r body (bound []) = refuses 23 r
body12 r body (bound (b ∷ bs)) = under_each (b ∷ bs) body

-- Kind 13, over what its condition and its body give under a binding. The condition is boolean under each of these bindings; it is true under
-- none. (In an accepted table a condition holds no choice, so that it gives one outcome.)
abbrev pub AllTested : (Binding → Outcomes Bool) → List Binding → Type 0
AllTested test bs = (b : Binding) → In b bs → (t : Bool) × test b (value t)

abbrev pub AllFalse : (Binding → Outcomes Bool) → List Binding → Type 0
AllFalse test bs = (b : Binding) → In b bs → test b (value false)

-- The first refusal among the conditions in the bindings' order: the conditions before it are boolean.
pub record FirstRefusal (test : Binding → Outcomes Bool) (bs : List Binding) (o : Outcome Value) : Type 0 where
  pub earlier : List Binding
  pub binding : Binding
  pub later : List Binding
  pub in_order : bs ≡ earlier ++ binding ∷ later
  pub tested : AllTested test earlier
  pub number : ℕ
  pub place : ℕ
  pub refused_there : test binding (refusal number place)
  pub outcome : o ≡ refusal number place

-- An outcome of the body under a binding that makes its condition true.
pub record UnderTrue (test : Binding → Outcomes Bool) (body : Binding → Outcomes Value) (bs : List Binding) (o : Outcome Value) : Type 0 where
  pub binding : Binding
  pub among : In binding bs
  pub true_there : test binding (value true)
  pub outcome : body binding o

-- The first refusal among the conditions; else 24 if none is true; else each outcome of the body under each binding that makes its condition
-- true.
abbrev pub body13 : ℕ → (Binding → Outcomes Bool) → (Binding → Outcomes Value) → List Binding → Outcomes Value
body13 r test body bs o = FirstRefusal test bs o ⊎ (AllFalse test bs × (o ≡ refusal 24 r)) ⊎ (AllTested test bs × UnderTrue test body bs o)

-- ---- every kind

unfoldable pub loose_of : (ℕ → Pattern) → Meanings → ℕ → Node → State → Outcomes Value
loose_of pattern rec r (truth b) ρ = gives (boolean b)
loose_of pattern rec r (whole z) ρ = gives (integer z)
loose_of pattern rec r (named x) ρ = or_else 20 r (value_in ρ x)
loose_of pattern rec r (unary_of op a) ρ = rec a ρ then (λ v. at r (unary op v))
loose_of pattern rec r (binary_of op a b) ρ = both_of rec a b ρ (λ v w. at r (binary op v w))
loose_of pattern rec r (connective c a b) ρ = rec a ρ then (λ v. right_of rec r b ρ (left c v))
loose_of pattern rec r (if t a b) ρ = rec t ρ then (λ v. is_true r v then (λ y. cond y (rec a ρ) (rec b ρ)))
loose_of pattern rec r (enumeration k operands) ρ = all_of rec operands ρ then (λ vs. at r (enumerated k vs))
loose_of pattern rec r (range a b) ρ = both_of rec a b ρ (λ v w. at r (range_of v w))
loose_of pattern rec r (let_in p a b) ρ = rec a ρ then (λ v. body12 r (λ β. rec b (under ρ β)) (formed (pattern p) (v ∷ [])))
loose_of pattern rec r (let_be p s c b) ρ =
    bindings_of rec r (pattern p) s ρ then (λ bs. body13 r (holds rec r c ρ) (λ β. rec b (under ρ β)) bs)
loose_of pattern rec r (quantified q p s c) ρ = bindings_of rec r (pattern p) s ρ then (λ bs. quantify q rec r c ρ bs then (λ t. gives (boolean t)))
loose_of pattern rec r (iota p s c) ρ = bindings_of rec r (pattern p) s ρ then (λ bs. satisfying rec r c ρ bs then (λ sat. unique r (pattern p) sat))
loose_of pattern rec r (set_comprehension p s c e) ρ =
    bindings_of rec r (pattern p) s ρ then (λ bs. comprehension rec r set c ρ (add_one rec r add_member e ρ) bs)
loose_of pattern rec r (sequence_comprehension p s c e) ρ =
    integer_bindings rec r (pattern p) s ρ then (λ bs. comprehension rec r sequence c ρ (add_one rec r add_item e ρ) bs)
loose_of pattern rec r (map_comprehension p s c k e) ρ =
    bindings_of rec r (pattern p) s ρ then (λ bs. comprehension rec r map c ρ (add_pair rec r k e ρ) bs)
loose_of pattern rec r (application a b) ρ = both_of rec a b ρ (λ v w. at r (apply_to v w))
loose_of pattern rec r (quoted n) ρ = gives (quote n)
loose_of pattern rec r no_expression ρ = refuses 20 r

unfoldable pub loose_to : Sheet → ℕ → ℕ → State → Outcomes Value
loose_to sheet zero r ρ = refuses 20 r
loose_to sheet (suc n) r ρ = loose_of sheet.pattern (λ a σ. loose_to sheet n a σ) r (sheet.node r) ρ

-- The outcomes of the record r in a state.
unfoldable pub loose_meaning : Sheet → ℕ → State → Outcomes Value
loose_meaning sheet r ρ = loose_to sheet (suc r) r ρ
