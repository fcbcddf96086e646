-- Document 01, "Evaluation" and "From the state of the run": the meaning of a record in a state, as a tree of choices over values.
-- A leaf is a value, or a refusal with its number and its place. A node is a choice among the bindings of a let-be or a loose let.
use Rattle.std.specs.Prelude.{Bool, true, false, cond, List, [], ◌∷◌, ℕ, zero, suc, eqb, length, get_or}
use Rattle.std.proofs.Math.Option.{Option, none as absent, some}
use Rattle.choices.specs.Tree.{Tree, give, stop, choose, bind}
use Rattle.values.specs.Value.{Kind, set, sequence, map, Value, boolean, integer, quote, collection, Items, none, more}
use Rattle.operators.specs.Answer.{Answer, is, refused, Built, built, stopped, as_boolean, as_integer, as_set}
use Rattle.operators.specs.Booleans.{Left, settles, leaves, left, right}
use Rattle.operators.specs.Sets.{range_of}
use Rattle.operators.specs.Maps.{apply_to}
use Rattle.operators.specs.Enumerations.{add_member, add_item, add_entry}
use Rattle.operators.specs.Operators.{unary, binary}
use Rattle.patterns.specs.Binding.{Binding, nothing}
use Rattle.patterns.specs.Pattern.{Pattern, loose, list_of}
use Rattle.patterns.specs.Binder.{Formed, bound, refused as unformed, formed}
use Rattle.meaning.specs.Node.{Node, Quantifier, forall, exists, exists1, truth, whole, named, unary_of, binary_of, connective, if, enumeration, range, let_in, let_be, quantified, iota, set_comprehension, sequence_comprehension, map_comprehension, application, quoted, no_expression}
use Rattle.meaning.specs.State.{State, under, value_in}
pub use Rattle.meaning.specs.Sheet.{Sheet, enumerated, pattern_name}

-- ---- an answer at a place

-- An operator's answer at the record r; what is built there; a value that is there or not.
abbrev pub at : ℕ → Answer → Tree Value
at r (is v) = give v
at r (refused n) = stop n r

abbrev pub built_at : ℕ → Built → Tree Items
built_at r (built vs) = give vs
built_at r (stopped n) = stop n r

abbrev pub or_else : {A : Type 0} → ℕ → ℕ → Option A → Tree A
or_else n r absent = stop n r
or_else n r (some a) = give a

-- ---- operands

-- What evaluates a record in a state.
abbrev pub Evaluation : Type 0
Evaluation = ℕ → State → Tree Value

-- Operands go in written order.
unfoldable pub all_of : Evaluation → List ℕ → State → Tree Items
all_of rec [] ρ = give none
all_of rec (a ∷ rest) ρ = bind (rec a ρ) (λ v. bind (all_of rec rest ρ) (λ vs. give (more v vs)))

-- Both, and then an operator of both.
abbrev pub both_of : Evaluation → ℕ → ℕ → State → (Value → Value → Tree Value) → Tree Value
both_of rec a b ρ f = bind (rec a ρ) (λ v. bind (rec b ρ) (λ w. f v w))

-- and, or, =>: the right is evaluated only if the left does not settle it.
abbrev pub right_of : Evaluation → ℕ → ℕ → State → Left → Tree Value
right_of rec r b ρ (settles a) = at r a
right_of rec r b ρ leaves = bind (rec b ρ) (λ w. at r (right w))

-- A condition and the test of an if must be boolean.
abbrev pub is_true : ℕ → Value → Tree Bool
is_true r v = or_else 20 r (as_boolean v)

-- ---- binders

-- The bindings of the binder r over values, or 29 or 30.
abbrev pub formed_at : ℕ → Formed → Tree (List Binding)
formed_at r (bound bs) = give bs
formed_at r (unformed n) = stop n r

-- The members of the set operand; 20 where it is no set.
abbrev pub members_at : ℕ → Value → Tree Items
members_at r v = or_else 20 r (as_set v)

-- The bindings of P over the members of the set operand.
abbrev pub bindings_of : Evaluation → ℕ → Pattern → ℕ → State → Tree (List Binding)
bindings_of rec r p s ρ = bind (rec s ρ) (λ v. bind (members_at r v) (λ vs. formed_at r (formed p (list_of vs))))

-- Does the condition hold under a binding?
abbrev pub holds : Evaluation → ℕ → ℕ → State → Binding → Tree Bool
holds rec r c ρ b = bind (rec c (under ρ b)) (λ v. is_true r v)

-- All bindings are tested, in order: those under which the condition holds.
unfoldable pub satisfying : Evaluation → ℕ → ℕ → State → List Binding → Tree (List Binding)
satisfying rec r c ρ [] = give []
satisfying rec r c ρ (b ∷ bs) = bind (holds rec r c ρ b) (λ t. bind (satisfying rec r c ρ bs) (λ sat. give (cond t (b ∷ sat) sat)))

-- A choice among bindings.
abbrev pub chosen_binding : ℕ → List Binding → Tree Binding
chosen_binding r bs = choose r (length bs) (λ i. give (get_or bs i nothing))

-- let: no match is 23; a loose let chooses, another has one binding.
abbrev pub matched : ℕ → Bool → List Binding → Tree Binding
matched r is_loose [] = stop 23 r
matched r true (b ∷ bs) = chosen_binding r (b ∷ bs)
matched r false (b ∷ bs) = give b

-- let-be: a choice among the satisfying bindings; 24 where there is none.
abbrev pub satisfied : ℕ → List Binding → Tree Binding
satisfied r [] = stop 24 r
satisfied r (b ∷ bs) = chosen_binding r (b ∷ bs)

-- forall stops at the first false, exists at the first true.
unfoldable pub until_false : (Binding → Tree Bool) → List Binding → Tree Bool
until_false test [] = give true
until_false test (b ∷ bs) = bind (test b) (λ t. cond t (until_false test bs) (give false))

unfoldable pub until_true : (Binding → Tree Bool) → List Binding → Tree Bool
until_true test [] = give false
until_true test (b ∷ bs) = bind (test b) (λ t. cond t (give true) (until_true test bs))

-- exists1 tests all bindings.
abbrev pub quantify : Quantifier → Evaluation → ℕ → ℕ → State → List Binding → Tree Bool
quantify forall rec r c ρ bs = until_false (holds rec r c ρ) bs
quantify exists rec r c ρ bs = until_true (holds rec r c ρ) bs
quantify exists1 rec r c ρ bs = bind (satisfying rec r c ρ bs) (λ sat. give (eqb (length sat) 1))

-- iota gives what its pattern, a name, is bound to; 25 without exactly one.
abbrev pub unique : ℕ → Pattern → List Binding → Tree Value
unique r p [] = stop 25 r
unique r p (b ∷ []) = or_else 25 r (value_in b (pattern_name p))
unique r p (b ∷ c ∷ bs) = stop 25 r

-- Comprehensions go binding by binding in order: condition, then what is added, added before the next.
unfoldable pub collected : (Binding → Tree Bool) → (Items → Binding → Tree Items) → Items → List Binding → Tree Items
collected test add vs [] = give vs
collected test add vs (b ∷ bs) = bind (test b) (λ t. cond t (bind (add vs b) (λ ws. collected test add ws bs)) (collected test add vs bs))

-- An element, or a key and a value, evaluated under a binding and added.
abbrev pub add_one : Evaluation → ℕ → (Items → Value → Built) → ℕ → State → Items → Binding → Tree Items
add_one rec r add e ρ vs b = bind (rec e (under ρ b)) (λ v. built_at r (add vs v))

abbrev pub add_pair : Evaluation → ℕ → ℕ → ℕ → State → Items → Binding → Tree Items
add_pair rec r k e ρ vs b = bind (rec k (under ρ b)) (λ key. bind (rec e (under ρ b)) (λ v. built_at r (add_entry vs key v)))

-- Kind 19 needs a set of integers, tested before its bindings are formed.
unfoldable pub integers_at : ℕ → Items → Tree Items
integers_at r none = give none
integers_at r (more v vs) = bind (or_else 20 r (as_integer v)) (λ z. bind (integers_at r vs) (λ ws. give (more v ws)))

abbrev pub integer_bindings : Evaluation → ℕ → Pattern → ℕ → State → Tree (List Binding)
integer_bindings rec r p s ρ = bind (rec s ρ) (λ v. bind (members_at r v) (λ vs. bind (integers_at r vs) (λ ws. formed_at r (formed p (list_of ws)))))

abbrev pub comprehension : Evaluation → ℕ → Kind → ℕ → State → (Items → Binding → Tree Items) → List Binding → Tree Value
comprehension rec r k c ρ add bs = bind (collected (holds rec r c ρ) add none bs) (λ vs. give (collection k vs))

-- ---- every kind

-- What a record r says in a state, over what its operands mean and its patterns are. In an accepted table every name that is read is
-- bound and no pattern is evaluated, so what stands for these two is of no account.
unfoldable pub means : (ℕ → Pattern) → Evaluation → ℕ → Node → State → Tree Value
means pattern rec r (truth b) ρ = give (boolean b)
means pattern rec r (whole z) ρ = give (integer z)
means pattern rec r (named x) ρ = or_else 20 r (value_in ρ x)
means pattern rec r (unary_of op a) ρ = bind (rec a ρ) (λ v. at r (unary op v))
means pattern rec r (binary_of op a b) ρ = both_of rec a b ρ (λ v w. at r (binary op v w))
means pattern rec r (connective c a b) ρ = bind (rec a ρ) (λ v. right_of rec r b ρ (left c v))
means pattern rec r (if t a b) ρ = bind (rec t ρ) (λ v. bind (is_true r v) (λ y. cond y (rec a ρ) (rec b ρ)))
means pattern rec r (enumeration k operands) ρ = bind (all_of rec operands ρ) (λ vs. at r (enumerated k vs))
means pattern rec r (range a b) ρ = both_of rec a b ρ (λ v w. at r (range_of v w))
means pattern rec r (let_in p a b) ρ =
    bind (rec a ρ) (λ v. bind (formed_at r (formed (pattern p) (v ∷ []))) (λ bs. bind (matched r (loose (pattern p)) bs) (λ β. rec b (under ρ β))))
means pattern rec r (let_be p s c b) ρ =
    bind (bindings_of rec r (pattern p) s ρ) (λ bs. bind (satisfying rec r c ρ bs) (λ sat. bind (satisfied r sat) (λ β. rec b (under ρ β))))
means pattern rec r (quantified q p s c) ρ = bind (bindings_of rec r (pattern p) s ρ) (λ bs. bind (quantify q rec r c ρ bs) (λ t. give (boolean t)))
means pattern rec r (iota p s c) ρ = bind (bindings_of rec r (pattern p) s ρ) (λ bs. bind (satisfying rec r c ρ bs) (λ sat. unique r (pattern p) sat))
means pattern rec r (set_comprehension p s c e) ρ =
    bind (bindings_of rec r (pattern p) s ρ) (λ bs. comprehension rec r set c ρ (add_one rec r add_member e ρ) bs)
means pattern rec r (sequence_comprehension p s c e) ρ =
    bind (integer_bindings rec r (pattern p) s ρ) (λ bs. comprehension rec r sequence c ρ (add_one rec r add_item e ρ) bs)
means pattern rec r (map_comprehension p s c k e) ρ =
    bind (bindings_of rec r (pattern p) s ρ) (λ bs. comprehension rec r map c ρ (add_pair rec r k e ρ) bs)
means pattern rec r (application a b) ρ = both_of rec a b ρ (λ v w. at r (apply_to v w))
means pattern rec r (quoted n) ρ = give (quote n)
means pattern rec r no_expression ρ = stop 20 r

-- ---- a sheet

-- A record names only lower ones, so a bound above its number is bound enough.
unfoldable pub meaning_to : Sheet → ℕ → ℕ → State → Tree Value
meaning_to sheet zero r ρ = stop 20 r
meaning_to sheet (suc n) r ρ = means sheet.pattern (λ a σ. meaning_to sheet n a σ) r (sheet.node r) ρ

-- The meaning of the record r in a state.
unfoldable pub meaning : Sheet → ℕ → State → Tree Value
meaning sheet r ρ = meaning_to sheet (suc r) r ρ
