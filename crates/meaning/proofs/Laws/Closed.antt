-- What holds of the tree of every record: whatever holds of a value, of a refusal at the record, of a choice at the record, and of one tree
-- followed by another.
use Rattle.std.specs.Prelude.{◌≡◌, refl, cond, ℕ, ◌≤◌, ◌<◌, eqb, leb, length, get_or}
use Rattle.std.proofs.Common.{subst, inl, inr, ⊎_elim, arith}
use Rattle.std.proofs.Math.Bool.{Bool, true, false}
use Rattle.std.proofs.Math.Option.{Option, none as absent, some}
use mathlib.Core.List.{List, [], ◌∷◌}
use Rattle.prelude.specs.Membership.{In}
use Rattle.prelude.proofs.Membership.{at_in}
use Rattle.choices.specs.Tree.{Tree, give, stop, bind, Gives}
use Rattle.choices.specs.Outcome.{Outcome, value}
use Rattle.values.specs.Value.{Kind, set, sequence, map, tuple, Value, boolean, integer, quote, collection, Items, none, more}
use Rattle.operators.specs.Answer.{Answer, is, refused, Built, built, stopped, as_boolean, as_integer, as_set}
use Rattle.operators.specs.Booleans.{Left, settles, leaves, left, right}
use Rattle.operators.specs.Sets.{range_of}
use Rattle.operators.specs.Maps.{apply_to}
use Rattle.operators.specs.Enumerations.{add_member, add_item, add_entry}
use Rattle.operators.specs.Operators.{unary, binary}
use Rattle.patterns.specs.Binding.{Binding, nothing}
use Rattle.patterns.specs.Ways.{exists as any_of}
use Rattle.patterns.specs.Pattern.{Pattern, loose, list_of, wide}
use Rattle.patterns.specs.Binder.{Formed, bound, refused as unformed, formed, bindings, most_bindings}
use Rattle.patterns.specs.Relation.{Matches}
use Rattle.patterns.proofs.Laws.Matched.{bindings_exactly}
use Rattle.patterns.proofs.Laws.Forming.{formed_bound}
use Rattle.meaning.specs.Node.{Node, Quantifier, forall, exists, exists1, truth, whole, named, unary_of, binary_of, connective, if, enumeration, range, let_in, let_be, quantified, iota, set_comprehension, sequence_comprehension, map_comprehension, application, quoted, no_expression}
use Rattle.meaning.specs.State.{State, under, value_in}
use Rattle.meaning.specs.Meaning.{Evaluation, at, built_at, or_else, all_of, both_of, right_of, is_true, enumerated, formed_at, members_at, bindings_of, holds, satisfying, chosen_binding, matched, satisfied, until_false, until_true, quantify, unique, collected, add_one, add_pair, integers_at, integer_bindings, comprehension, means, pattern_name}
use Rattle.meaning.proofs.Laws.Equation.{covered, Each, plain_operands}
use Rattle.meaning.proofs.Laws.Proper.{binder_of}
use Rattle.meaning.proofs.Laws.Numbers.{Ranged, Other, Answered, BuiltSo, LeftSo, unary_operator_is, binary_operator_is, range_number, right_number, left_number, apply_number, entry_number, member_number, item_number, set_number, sequence_number, map_number, tuple_number}
use Rattle.meaning.proofs.Laws.Only.{Only, only_give, only_stop, only_bind, Any, only_any}

-- ---- the bindings of a binder

abbrev Few : List Binding → Type 0
Few bs = length bs ≤ most_bindings

-- The binding matches some value.
abbrev pub Comes : Pattern → Binding → Type 0
Comes p β = (v : Value) × Matches p v β

-- What is formed: at most 255 bindings, with which the pattern matches.
pub record Formable (p : Pattern) (bs : List Binding) : Type 0 where
  pub few : Few bs
  pub come : (β : Binding) → In β bs → Comes p β

formable : (r : ℕ) (p : Pattern) (vs : List Value) → Only (Formable p) (formed_at r (formed p vs))
formable r p vs = go (formed p vs) refl
  where
    come : (bs : List Binding) → bs ≡ bindings p vs → (β : Binding) → In β bs → Comes p β
    come bs e β i = let (v, j, m) = (bindings_exactly p vs β).0 (subst (In β) e i) in (v, m)

    go : (x : Formed) → formed p vs ≡ x → Only (Formable p) (formed_at r x)
    go (bound bs) e = let f = formed_bound p vs bs e in only_give (Formable p) bs (record { few = f.few_enough; come = come bs f.all })
    go (unformed n) e = only_stop (Formable p) n r

formable_bindings : (rec : Evaluation) (r : ℕ) (p : Pattern) (s : ℕ) (ρ : State) → Only (Formable p) (bindings_of rec r p s ρ)
formable_bindings rec r p s ρ =
    only_bind Any (Formable p) (rec s ρ) _ (only_any (rec s ρ))
    (λ v i. only_bind Any (Formable p) (members_at r v) _ (only_any (members_at r v)) (λ vs j. formable r p (list_of vs)))

formable_integers : (rec : Evaluation) (r : ℕ) (p : Pattern) (s : ℕ) (ρ : State) → Only (Formable p) (integer_bindings rec r p s ρ)
formable_integers rec r p s ρ =
    only_bind Any (Formable p) (rec s ρ) _ (only_any (rec s ρ))
    (λ v i. only_bind Any (Formable p) (members_at r v) _ (only_any (members_at r v))
    (λ vs j. only_bind Any (Formable p) (integers_at r vs) _ (only_any (integers_at r vs)) (λ ws k. formable r p (list_of ws))))

-- Those that satisfy are some of the bindings.
pub record Some (bs sat : List Binding) : Type 0 where
  pub not_more : length sat ≤ length bs
  pub among : (β : Binding) → In β sat → In β bs

some_satisfy : (rec : Evaluation) (r c : ℕ) (ρ : State) (bs : List Binding) → Only (Some bs) (satisfying rec r c ρ bs)
unfolding satisfying
some_satisfy rec r c ρ [] = only_give (Some []) [] (record { not_more = omega arith; among = λ β i. i })
some_satisfy rec r c ρ (b ∷ bs) =
    only_bind Any (Some (b ∷ bs)) (holds rec r c ρ b) _ (only_any (holds rec r c ρ b))
    (λ t i. only_bind (Some bs) (Some (b ∷ bs)) (satisfying rec r c ρ bs) _ (some_satisfy rec r c ρ bs)
    (λ sat h. only_give (Some (b ∷ bs)) (cond t (b ∷ sat) sat) (kept t sat h)))
  where
    kept : (t : Bool) (sat : List Binding) → Some bs sat → Some (b ∷ bs) (cond t (b ∷ sat) sat)
    kept true sat h = let l = h.not_more in record { not_more = omega arith; among = λ β i. ⊎_elim (λ e. inl e) (λ j. inr (h.among β j)) i }
    kept false sat h = let l = h.not_more in record { not_more = omega arith; among = λ β i. inr (h.among β i) }

abbrev pub FormedSo : Formed → Type 0
FormedSo (bound bs) = Unit {0}
FormedSo (unformed n) = Other n

pub formed_number : (p : Pattern) (vs : List Value) → FormedSo (formed p vs)
formed_number p vs = go (any_of vs (wide p)) (leb (length (bindings p vs)) most_bindings)
  where
    go : (b c : Bool) → FormedSo (cond b (unformed 29) (cond c (bound (bindings p vs)) (unformed 30)))
    go true c = (omega arith, omega arith, λ e. omega arith)
    go false true = tt
    go false false = (omega arith, omega arith, λ e. omega arith)

pub enumerated_number : (k : Kind) (vs : Items) → Answered (enumerated k vs)
enumerated_number set vs = set_number vs
enumerated_number sequence vs = sequence_number vs
enumerated_number map vs = map_number vs
enumerated_number tuple vs = tuple_number vs

-- ---- a property of trees, at the record r

-- A let-be and a loose let choose.
abbrev pub Chooses : (ℕ → Pattern) → Node → Type 0
Chooses pattern (truth b) = ⊥
Chooses pattern (whole z) = ⊥
Chooses pattern (named x) = ⊥
Chooses pattern (unary_of op a) = ⊥
Chooses pattern (binary_of op a b) = ⊥
Chooses pattern (connective c a b) = ⊥
Chooses pattern (if t a b) = ⊥
Chooses pattern (enumeration k os) = ⊥
Chooses pattern (range a b) = ⊥
Chooses pattern (let_in p a b) = loose (pattern p) ≡ true
Chooses pattern (let_be p s c b) = Unit {0}
Chooses pattern (quantified q p s c) = ⊥
Chooses pattern (iota p s c) = ⊥
Chooses pattern (set_comprehension p s c e) = ⊥
Chooses pattern (sequence_comprehension p s c e) = ⊥
Chooses pattern (map_comprehension p s c k e) = ⊥
Chooses pattern (application a b) = ⊥
Chooses pattern (quoted n) = ⊥
Chooses pattern no_expression = ⊥

-- Q holds of a value, of a refusal 20 to 30 at r, of a choice at r among 1 to 255 bindings where r may choose, and of one tree followed by
-- another.
pub record Closed (Q : (A : Type 0) → Tree A → Type 0) (May : Type 0) (r : ℕ) : Type 1 where
  pub of_give : (A : Type 0) (a : A) → Q A (give a)
  pub of_stop : (A : Type 0) (n : ℕ) → Ranged n → Q A (stop n r)
  pub of_choice : May → (bs : List Binding) → 0 < length bs → Few bs → Q Binding (chosen_binding r bs)
  pub of_bind : (A B : Type 0) (t : Tree A) (f : A → Tree B) → Q A t → ((a : A) → Gives t (value a) → Q B (f a)) → Q B (bind t f)

kind_number : Ranged 20
kind_number = (omega arith, omega arith)

value-is : {A : Type 0} {a b : A} → ◌≡◌ {A = Outcome A} (value b) (value a) → a ≡ b
value-is {A} {a} {b} e = let d : a ≡ b = cc in d

unique_number : Ranged 25
unique_number = (omega arith, omega arith)

module _ (Q : (A : Type 0) → Tree A → Type 0) (May : Type 0) (r : ℕ) (closed : Closed Q May r) where
  then : {A B : Type 0} (t : Tree A) (f : A → Tree B) → Q A t → ((a : A) → Q B (f a)) → Q B (bind t f)
  then {A} {B} t f h k = closed.of_bind A B t f h (λ a g. k a)

  by_test : {A : Type 0} (b : Bool) (t u : Tree A) → Q A t → Q A u → Q A (cond b t u)
  by_test true t u h k = h
  by_test false t u h k = k

  answer_closed : (a : Answer) → Answered a → Q Value (at r a)
  answer_closed (is v) h = closed.of_give Value v
  answer_closed (refused n) h = closed.of_stop Value n (h.0, h.1)

  built_closed : (b : Built) → BuiltSo b → Q Items (built_at r b)
  built_closed (built vs) h = closed.of_give Items vs
  built_closed (stopped n) h = closed.of_stop Items n (h.0, h.1)

  else_closed : {A : Type 0} (n : ℕ) (x : Option A) → Ranged n → Q A (or_else n r x)
  else_closed {A} n absent h = closed.of_stop A n h
  else_closed {A} n (some a) h = closed.of_give A a

  formed_closed : (p : Pattern) (vs : List Value) → Q (List Binding) (formed_at r (formed p vs))
  formed_closed p vs = go (formed p vs) (formed_number p vs)
    where
      go : (x : Formed) → FormedSo x → Q (List Binding) (formed_at r x)
      go (bound bs) h = closed.of_give (List Binding) bs
      go (unformed n) h = closed.of_stop (List Binding) n (h.0, h.1)

  choice_closed : May → (bs : List Binding) (f : Binding → Tree Value) → 0 < length bs → Few bs → ((b : Binding) → In b bs → Q Value (f b)) → Q Value (bind (chosen_binding r bs) f)
  choice_closed may bs f n e h =
      closed.of_bind Binding Value (chosen_binding r bs) f (closed.of_choice may bs n e)
      (λ β g. h β (let d : get_or bs g.0 nothing ≡ β = value-is g.2 in subst (λ x. In x bs) d (at_in bs g.0 nothing g.1)))

  matched_closed : (l : Bool) → (l ≡ true → May) → (bs : List Binding) (f : Binding → Tree Value) → Few bs → ((b : Binding) → In b bs → Q Value (f b)) → Q Value (bind (matched r l bs) f)
  matched_closed l may [] f e h = closed.of_stop Value 23 (omega arith, omega arith)
  matched_closed true may (b ∷ bs) f e h = choice_closed (may refl) (b ∷ bs) f (omega arith) e h
  matched_closed false may (b ∷ bs) f e h = h b (inl refl)

  satisfied_closed : May → (bs : List Binding) (f : Binding → Tree Value) → Few bs → ((b : Binding) → In b bs → Q Value (f b)) → Q Value (bind (satisfied r bs) f)
  satisfied_closed may [] f e h = closed.of_stop Value 24 (omega arith, omega arith)
  satisfied_closed may (b ∷ bs) f e h = choice_closed may (b ∷ bs) f (omega arith) e h

  unique_closed : (p : Pattern) (bs : List Binding) → Q Value (unique r p bs)
  unique_closed p [] = closed.of_stop Value 25 unique_number
  unique_closed p (b ∷ []) = else_closed 25 (value_in b (pattern_name p)) unique_number
  unique_closed p (b ∷ c ∷ bs) = closed.of_stop Value 25 unique_number

  until_false_closed : (test : Binding → Tree Bool) (bs : List Binding) → ((b : Binding) → In b bs → Q Bool (test b)) → Q Bool (until_false test bs)
  unfolding until_false
  until_false_closed test [] h = closed.of_give Bool true
  until_false_closed test (b ∷ bs) h =
      then (test b) _ (h b (inl refl)) (λ t. by_test t (until_false test bs) (give false) (until_false_closed test bs (λ d i. h d (inr i))) (closed.of_give Bool false))

  until_true_closed : (test : Binding → Tree Bool) (bs : List Binding) → ((b : Binding) → In b bs → Q Bool (test b)) → Q Bool (until_true test bs)
  unfolding until_true
  until_true_closed test [] h = closed.of_give Bool false
  until_true_closed test (b ∷ bs) h =
      then (test b) _ (h b (inl refl)) (λ t. by_test t (give true) (until_true test bs) (closed.of_give Bool true) (until_true_closed test bs (λ d i. h d (inr i))))

  collected_closed : (test : Binding → Tree Bool) (add : Items → Binding → Tree Items) (bs : List Binding) → ((b : Binding) → In b bs → Q Bool (test b)) → ((vs : Items) (b : Binding) → In b bs → Q Items (add vs b)) → (vs : Items) → Q Items (collected test add vs bs)
  unfolding collected
  collected_closed test add [] h k vs = closed.of_give Items vs
  collected_closed test add (b ∷ bs) h k vs =
      then (test b) _ (h b (inl refl))
      (λ t. by_test t (bind (add vs b) (λ ws. collected test add ws bs)) (collected test add vs bs)
      (then (add vs b) _ (k vs b (inl refl)) (λ ws. collected_closed test add bs (λ d i. h d (inr i)) (λ us d i. k us d (inr i)) ws))
      (collected_closed test add bs (λ d i. h d (inr i)) (λ us d i. k us d (inr i)) vs))

  integers_closed : (vs : Items) → Q Items (integers_at r vs)
  unfolding integers_at
  integers_closed none = closed.of_give Items none
  integers_closed (more v vs) =
      then (or_else 20 r (as_integer v)) _ (else_closed 20 (as_integer v) kind_number) (λ z. then (integers_at r vs) _ (integers_closed vs) (λ ws. closed.of_give Items (more v ws)))

  -- ---- over records of which it holds

  module _ (rec : Evaluation) (ρ : State) where
    -- It holds of a record in this state; under a binding; under each of some bindings.
    abbrev Here : ℕ → Type 0
    Here a = Q Value (rec a ρ)

    abbrev There : ℕ → Binding → Type 0
    There a β = Q Value (rec a (under ρ β))

    abbrev OverAll : List Binding → ℕ → Type 0
    OverAll bs a = (β : Binding) → In β bs → There a β

    all_closed : (os : List ℕ) → Each Here os → Q Items (all_of rec os ρ)
    unfolding all_of
    all_closed [] l = closed.of_give Items none
    all_closed (a ∷ os) l = then (rec a ρ) _ l.0 (λ v. then (all_of rec os ρ) _ (all_closed os l.1) (λ vs. closed.of_give Items (more v vs)))

    both_closed : (a b : ℕ) → Here a → Here b → (f : Value → Value → Tree Value) → ((v w : Value) → Q Value (f v w)) → Q Value (both_of rec a b ρ f)
    both_closed a b l m f h = then (rec a ρ) _ l (λ v. then (rec b ρ) _ m (λ w. h v w))

    right_closed : (b : ℕ) → Here b → (x : Left) → LeftSo x → Q Value (right_of rec r b ρ x)
    right_closed b l (settles a) h = answer_closed a h
    right_closed b l leaves h = then (rec b ρ) _ l (λ w. answer_closed (right w) (right_number w))

    holds_closed : (c : ℕ) (b : Binding) → There c b → Q Bool (holds rec r c ρ b)
    holds_closed c b l = then (rec c (under ρ b)) _ l (λ v. else_closed 20 (as_boolean v) kind_number)

    bindings_closed : (p : Pattern) (s : ℕ) → Here s → Q (List Binding) (bindings_of rec r p s ρ)
    bindings_closed p s l = then (rec s ρ) _ l (λ v. then (members_at r v) _ (else_closed 20 (as_set v) kind_number) (λ vs. formed_closed p (list_of vs)))

    integer_bindings_closed : (p : Pattern) (s : ℕ) → Here s → Q (List Binding) (integer_bindings rec r p s ρ)
    integer_bindings_closed p s l =
        then (rec s ρ) _ l
        (λ v. then (members_at r v) _ (else_closed 20 (as_set v) kind_number) (λ vs. then (integers_at r vs) _ (integers_closed vs) (λ ws. formed_closed p (list_of ws))))

    satisfying_closed : (c : ℕ) (bs : List Binding) → OverAll bs c → Q (List Binding) (satisfying rec r c ρ bs)
    unfolding satisfying
    satisfying_closed c [] l = closed.of_give (List Binding) []
    satisfying_closed c (b ∷ bs) l =
        then (holds rec r c ρ b) _ (holds_closed c b (l b (inl refl)))
        (λ t. then (satisfying rec r c ρ bs) _ (satisfying_closed c bs (λ d i. l d (inr i))) (λ sat. closed.of_give (List Binding) (cond t (b ∷ sat) sat)))

    quantify_closed : (q : Quantifier) (c : ℕ) (bs : List Binding) → OverAll bs c → Q Bool (quantify q rec r c ρ bs)
    quantify_closed forall c bs l = until_false_closed (holds rec r c ρ) bs (λ b i. holds_closed c b (l b i))
    quantify_closed exists c bs l = until_true_closed (holds rec r c ρ) bs (λ b i. holds_closed c b (l b i))
    quantify_closed exists1 c bs l = then (satisfying rec r c ρ bs) _ (satisfying_closed c bs l) (λ sat. closed.of_give Bool (eqb (length sat) 1))

    one_closed : (add : Items → Value → Built) → ((vs : Items) (v : Value) → BuiltSo (add vs v)) → (e : ℕ) (bs : List Binding) → OverAll bs e → (vs : Items) (b : Binding) → In b bs → Q Items (add_one rec r add e ρ vs b)
    one_closed add h e bs l vs b i = then (rec e (under ρ b)) _ (l b i) (λ v. built_closed (add vs v) (h vs v))

    pair_closed : (k e : ℕ) (bs : List Binding) → OverAll bs k → OverAll bs e → (vs : Items) (b : Binding) → In b bs → Q Items (add_pair rec r k e ρ vs b)
    pair_closed k e bs l m vs b i =
        then (rec k (under ρ b)) _ (l b i) (λ key. then (rec e (under ρ b)) _ (m b i) (λ v. built_closed (add_entry vs key v) (entry_number vs key v)))

    comprehension_closed : (k : Kind) (c : ℕ) (bs : List Binding) → OverAll bs c → (add : Items → Binding → Tree Items) → ((vs : Items) (b : Binding) → In b bs → Q Items (add vs b)) → Q Value (comprehension rec r k c ρ add bs)
    comprehension_closed k c bs l add h =
        then (collected (holds rec r c ρ) add none bs) _ (collected_closed (holds rec r c ρ) add bs (λ b i. holds_closed c b (l b i)) h none) (λ vs. closed.of_give Value (collection k vs))

    -- It holds of a record under every binding with which the pattern matches.
    abbrev pub Under : Pattern → ℕ → Type 0
    Under p a = (β : Binding) → Comes p β → There a β

    over : (p : Pattern) (bs : List Binding) (a : ℕ) → Formable p bs → Under p a → OverAll bs a
    over p bs a f h β i = h β (f.come β i)

    -- What a binder does with its bindings.
    bound_closed : (p : Pattern) (s : ℕ) (f : List Binding → Tree Value) → Here s → ((bs : List Binding) → Formable p bs → Q Value (f bs)) → Q Value (bind (bindings_of rec r p s ρ) f)
    bound_closed p s f l h = closed.of_bind (List Binding) Value (bindings_of rec r p s ρ) f (bindings_closed p s l) (λ bs g. h bs (formable_bindings rec r p s ρ bs g))

    let_be_closed : May → (p : Pattern) (c b : ℕ) → Under p c → Under p b → (bs : List Binding) → Formable p bs → Q Value (bind (satisfying rec r c ρ bs) (λ sat. bind (satisfied r sat) (λ β. rec b (under ρ β))))
    let_be_closed may p c b m o bs f =
        closed.of_bind (List Binding) Value (satisfying rec r c ρ bs) _ (satisfying_closed c bs (over p bs c f m))
        (λ sat h.
        let some = some_satisfy rec r c ρ bs sat h in
        let few = f.few in
        let not_more = some.not_more in
        satisfied_closed may sat (λ β. rec b (under ρ β)) (omega arith) (λ β i. over p bs b f o β (some.among β i)))

    -- THEOREM: it holds of what a record says.
    pub closed_node : (pattern : ℕ → Pattern) (n : Node) → (Chooses pattern n → May) → Each Here (plain_operands n) → Each (Under (pattern (binder_of n))) (covered n) → Q Value (means pattern rec r n ρ)
    unfolding means
    closed_node pattern (truth b) may l m = closed.of_give Value (boolean b)
    closed_node pattern (whole z) may l m = closed.of_give Value (integer z)
    closed_node pattern (named x) may l m = else_closed 20 (value_in ρ x) kind_number
    closed_node pattern (unary_of op a) may l m = then (rec a ρ) _ l.0 (λ v. answer_closed (unary op v) (unary_operator_is op v))
    closed_node pattern (binary_of op a b) may l m = both_closed a b l.0 l.1.0 _ (λ v w. answer_closed (binary op v w) (binary_operator_is op v w))
    closed_node pattern (connective c a b) may l m = then (rec a ρ) _ l.0 (λ v. right_closed b l.1.0 (left c v) (left_number c v))
    closed_node pattern (if t a b) may l m =
        then (rec t ρ) _ l.0 (λ v. then (is_true r v) _ (else_closed 20 (as_boolean v) kind_number) (λ y. by_test y (rec a ρ) (rec b ρ) l.1.0 l.1.1.0))
    closed_node pattern (enumeration k os) may l m = then (all_of rec os ρ) _ (all_closed os l) (λ vs. answer_closed (enumerated k vs) (enumerated_number k vs))
    closed_node pattern (range a b) may l m = both_closed a b l.0 l.1.0 _ (λ v w. answer_closed (range_of v w) (range_number v w))
    closed_node pattern (let_in p a b) may l m =
        then (rec a ρ) _ l.0
        (λ v. closed.of_bind (List Binding) Value (formed_at r (formed (pattern p) (v ∷ []))) _ (formed_closed (pattern p) (v ∷ []))
        (λ bs g.
        let f = formable r (pattern p) (v ∷ []) bs g in
        matched_closed (loose (pattern p)) may bs (λ β. rec b (under ρ β)) f.few (over (pattern p) bs b f m.0)))
    closed_node pattern (let_be p s c b) may l m = bound_closed (pattern p) s _ l.0 (λ bs f. let_be_closed (may tt) (pattern p) c b m.0 m.1.0 bs f)
    closed_node pattern (quantified q p s c) may l m =
        bound_closed (pattern p) s _ l.0 (λ bs f. then (quantify q rec r c ρ bs) _ (quantify_closed q c bs (over (pattern p) bs c f m.0)) (λ t. closed.of_give Value (boolean t)))
    closed_node pattern (iota p s c) may l m =
        bound_closed (pattern p) s _ l.0 (λ bs f. then (satisfying rec r c ρ bs) _ (satisfying_closed c bs (over (pattern p) bs c f m.0)) (λ sat. unique_closed (pattern p) sat))
    closed_node pattern (set_comprehension p s c e) may l m =
        bound_closed (pattern p) s _ l.0
        (λ bs f. comprehension_closed set c bs (over (pattern p) bs c f m.0) _ (one_closed add_member member_number e bs (over (pattern p) bs e f m.1.0)))
    closed_node pattern (sequence_comprehension p s c e) may l m =
        closed.of_bind (List Binding) Value (integer_bindings rec r (pattern p) s ρ) _ (integer_bindings_closed (pattern p) s l.0)
        (λ bs g.
        let f = formable_integers rec r (pattern p) s ρ bs g in
        comprehension_closed sequence c bs (over (pattern p) bs c f m.0) _ (one_closed add_item item_number e bs (over (pattern p) bs e f m.1.0)))
    closed_node pattern (map_comprehension p s c k e) may l m =
        bound_closed (pattern p) s _ l.0
        (λ bs f. comprehension_closed map c bs (over (pattern p) bs c f m.0) _ (pair_closed k e bs (over (pattern p) bs k f m.1.0) (over (pattern p) bs e f m.1.1.0)))
    closed_node pattern (application a b) may l m = both_closed a b l.0 l.1.0 _ (λ v w. answer_closed (apply_to v w) (apply_number v w))
    closed_node pattern (quoted n) may l m = closed.of_give Value (quote n)
    closed_node pattern no_expression may l m = closed.of_stop Value 20 kind_number
