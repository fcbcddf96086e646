-- Rule 8: in an accepted table there is no choice inside a condition. Its meaning is one leaf, a value or a refusal.
use Rattle.std.specs.Prelude.{◌≡◌, refl, Bool, false, ◌&&◌, ◌||◌, cond, List, [], ◌∷◌, eqb, length}
use Rattle.std.proofs.Common.{sym, ◌∙◌, subst, arith, eq-eqb}
use Rattle.std.proofs.Math.Path.{ap}
use Rattle.std.proofs.Math.Bool.{true}
use Prim.Native.Nat.{ℕ, zero, suc, ◌+◌, ◌<◌}
use Rattle.std.proofs.Math.ListN.{get_or, get_or-eq_default}
use mathlib.Mathlib.Data.Bool.Basic.{or_inr}
use Rattle.prelude.proofs.Absurd.{never, impossible}
use Rattle.choices.specs.Tree.{Tree, give, stop, choose, bind, Gives}
use Rattle.choices.specs.Outcome.{value}
use Rattle.operators.specs.Booleans.{and, or, implies}
use Rattle.patterns.specs.Binding.{Binding}
use Rattle.patterns.specs.Pattern.{loose as is_loose_at}
use Rattle.tables.specs.declared.Role.TheVariants.{Plain, Condition}
use Rattle.std.specs.Prelude.{Ok}
use Rattle.tables.specs.Record.{Record, shape, operator, named as operands_of, operand, role_at}
use Rattle.tables.specs.Table.{no_record, record_at, kind_at}
use Rattle.tables.specs.Sheet.{loose, pattern_of, is_condition, is_binder, in_condition}
use Rattle.tables.specs.Check.{check, chooses}
use Rattle.prelude.proofs.Truth.{by_lower}
use Rattle.tables.specs.Accepted.{records, Fine}
use Rattle.tables.proofs.Laws.Accepted.{accepted_fine, operand_lower, condition_operand, binder_operands, binder_pattern, choice_outside, fit_least, named_count}
use Rattle.patterns.specs.Read.{pattern_at}
use Rattle.meaning.specs.Node.{Node, truth, whole, named, unary_of, binary_of, connective, if, enumeration, range, let_in, let_be, quantified, iota, set_comprehension, sequence_comprehension, map_comprehension, application, quoted, no_expression}
use Rattle.meaning.specs.State.{State, under}
use Rattle.meaning.specs.Meaning.{meaning_to, meaning}
use Rattle.meaning.specs.Read.{nodes, node_of, none, binary_node, sheet}
use Rattle.meaning.proofs.Laws.Proper.{◌&◌, inside}
use Rattle.meaning.proofs.Laws.PatternLaws.{loose_is}
use Rattle.meaning.proofs.Laws.Closed.{Closed, Comes, Chooses, closed_node}

-- ---- trees without a choice

abbrev pub OneLeaf : {A : Type 0} → Tree A → Type 0
OneLeaf (give a) = Unit {0}
OneLeaf (stop n p) = Unit {0}
OneLeaf (choose p n ways) = ⊥

one_bind : {A B : Type 0} (t : Tree A) (f : A → Tree B) → OneLeaf t → ((a : A) → Gives t (value a) → OneLeaf (f a)) → OneLeaf (bind t f)
one_bind (give a) f h k = k a refl
one_bind (stop n p) f h k = tt
one_bind (choose p n ways) f h k = absurd h

one_closed : (r : ℕ) → Closed (λ A t. OneLeaf t) ⊥ r
one_closed r =
    record {
      of_give = λ A a. tt;
      of_stop = λ A n h. tt;
      of_choice = λ may bs h k. absurd may;
      of_bind = λ A B t f h k. one_bind t f h k;
    }

-- The value that such a tree gives is all that it is.
pub leaf_gives : {A : Type 0} (t : Tree A) (a : A) → OneLeaf t → Gives t (value a) → t ≡ give a
leaf_gives (give b) a h e = let d : b ≡ a = cc in ap give d
leaf_gives (stop n p) a h e = impossible cc
leaf_gives (choose p n ways) a h e = absurd h

-- ---- the records that choose

-- A let-be is of kind 13 and its third operand is its condition; a let is of kind 12 and its first is its pattern.
abbrev Tells : Node → Record → ℕ → Type 0
Tells (truth b) q k = Unit {0}
Tells (whole z) q k = Unit {0}
Tells (named x) q k = Unit {0}
Tells (unary_of op a) q k = Unit {0}
Tells (binary_of op a b) q k = Unit {0}
Tells (connective c a b) q k = Unit {0}
Tells (if t a b) q k = Unit {0}
Tells (enumeration m os) q k = Unit {0}
Tells (range a b) q k = Unit {0}
Tells (let_in p a b) q k = (k ≡ 12) × (p ≡ operand q 0)
Tells (let_be p s c b) q k = (k ≡ 13) × (c ≡ operand q 2)
Tells (quantified m p s c) q k = Unit {0}
Tells (iota p s c) q k = Unit {0}
Tells (set_comprehension p s c e) q k = Unit {0}
Tells (sequence_comprehension p s c e) q k = Unit {0}
Tells (map_comprehension p s c m e) q k = Unit {0}
Tells (application a b) q k = Unit {0}
Tells (quoted n) q k = Unit {0}
Tells no_expression q k = Unit {0}

abbrev TellsFrom : ℕ → List (Record → Node) → Type 0
TellsFrom k [] = Unit {0}
TellsFrom k (f ∷ fs) = ((q : Record) → Tells (f q) q k) × TellsFrom (suc k) fs

tells_at : (k j : ℕ) (fs : List (Record → Node)) (q : Record) → TellsFrom k fs → Tells (get_or fs j none q) q (k + j)
tells_at k j [] q h = tt
tells_at k zero (f ∷ fs) q h = let e : k ≡ k + 0 = omega arith in subst (λ m. Tells (f q) q m) e (h.0 q)
tells_at k (suc j) (f ∷ fs) q h = let e : suc k + j ≡ k + suc j = omega arith in subst (λ m. Tells (get_or fs j none q) q m) e (tells_at (suc k) j fs q h.1)

binary_tells : (op a b : ℕ) (q : Record) (k : ℕ) → Tells (binary_node op a b) q k
binary_tells op a b q k = go (eqb op 1) (eqb op 2) (eqb op 3)
  where
    go : (x y z : Bool) → Tells (cond x (connective and a b) (cond y (connective or a b) (cond z (connective implies a b) (binary_of op a b)))) q k
    go true y z = tt
    go false true z = tt
    go false false true = tt
    go false false false = tt

each_tells : TellsFrom 0 nodes
each_tells =
    (λ q. tt) & (λ q. tt) & (λ q. tt) & (λ q. tt) & (λ q. tt) & (λ q. binary_tells (operator q) (operand q 0) (operand q 1) q 5) & (λ q. tt) & (λ q. tt) & (λ q. tt) & (λ q. tt)
    & (λ q. tt) & (λ q. tt) & (λ q. (refl, refl)) & (λ q. (refl, refl)) & (λ q. tt) & (λ q. tt) & (λ q. tt) & (λ q. tt) & (λ q. tt) & (λ q. tt)
    & (λ q. tt) & (λ q. tt) & (λ q. tt) & tt

node_tells : (q : Record) → Tells (node_of q) q q.kind
unfolding node_of
node_tells q = let e : 0 + q.kind ≡ q.kind = omega arith in subst (λ m. Tells (get_or nodes q.kind none q) q m) e (tells_at 0 q.kind nodes q each_tells)

module _ (table : List ℕ) (n : ℕ) (ok : check table ≡ Ok n) where
  abbrev rs : List Record
  rs = records table

  fine : Fine rs
  fine = (accepted_fine table n ok).0

  -- A record that chooses is one of which rule 8 speaks.
  let_chooses : (r : ℕ) → r < length rs → kind_at rs r ≡ 12 → is_loose_at (pattern_at rs (pattern_of rs r)) ≡ true → chooses rs r ≡ true
  unfolding chooses shape
  let_chooses r h k l =
      let binder : is_binder (kind_at rs r) ≡ true = ap is_binder k in
      let low = operand_lower rs fine.clear6 r 0 h (binder_operands rs fine r h binder) in
      let is : loose rs (pattern_of rs r) ≡ true = loose_is table n ok (pattern_of rs r) (omega arith) (binder_pattern rs fine r h binder) ∙ l in
      or_inr (eqb (kind_at rs r) 13) _ (ap (λ b. b && loose rs (pattern_of rs r)) (eq-eqb (kind_at rs r) 12 k) ∙ is)

  let_be_chooses : (r : ℕ) → kind_at rs r ≡ 13 → chooses rs r ≡ true
  unfolding chooses
  let_be_chooses r k = ap (λ b. b || (eqb (kind_at rs r) 12 && loose rs (pattern_of rs r))) (eq-eqb (kind_at rs r) 13 k)

  node_chooses : (r : ℕ) → r < length rs → Chooses (sheet table).pattern ((sheet table).node r) → chooses rs r ≡ true
  node_chooses r h x = go (node_of (record_at rs r)) (node_tells (record_at rs r)) x
    where
      go : (m : Node) → Tells m (record_at rs r) (kind_at rs r) → Chooses (sheet table).pattern m → chooses rs r ≡ true
      go (truth b) t y = absurd y
      go (whole z) t y = absurd y
      go (named z) t y = absurd y
      go (unary_of op a) t y = absurd y
      go (binary_of op a b) t y = absurd y
      go (connective c a b) t y = absurd y
      go (if c a b) t y = absurd y
      go (enumeration k os) t y = absurd y
      go (range a b) t y = absurd y
      go (let_in p a b) t y = let_chooses r h t.0 (ap (λ z. is_loose_at (pattern_at rs z)) (sym t.1) ∙ y)
      go (let_be p s c b) t y = let_be_chooses r t.0
      go (quantified q p s c) t y = absurd y
      go (iota p s c) t y = absurd y
      go (set_comprehension p s c e) t y = absurd y
      go (sequence_comprehension p s c e) t y = absurd y
      go (map_comprehension p s c k e) t y = absurd y
      go (application a b) t y = absurd y
      go (quoted n) t y = absurd y
      go no_expression t y = absurd y

  no_choice : (r : ℕ) → r < length rs → in_condition rs r ≡ true → Chooses (sheet table).pattern ((sheet table).node r) → ⊥
  no_choice r h c x = never (sym (choice_outside rs r (fine.clear8 r h) (node_chooses r h x)) ∙ c)

  -- ---- conditions

  inner : (r i : ℕ) → r < length rs → i < length (operands_of (record_at rs r)) → in_condition rs r ≡ true → in_condition rs (operand (record_at rs r) i) ≡ true
  inner r i h k c = condition_operand rs fine.clear6 r i h k ∙ or_inr (is_condition (role_at (record_at rs r) i)) _ c

  one_to : (m r : ℕ) (ρ : State) → r < length rs → in_condition rs r ≡ true → OneLeaf (meaning_to (sheet table) m r ρ)
  unfolding meaning_to
  one_to zero r ρ h c = tt
  one_to (suc m) r ρ h c =
      let all =
      inside rs fine (λ a. OneLeaf (meaning_to (sheet table) m a ρ)) (λ p a. (β : Binding) → Comes (pattern_at rs p) β → OneLeaf (meaning_to (sheet table) m a (under ρ β))) r h
      (λ i k d. one_to m (operand (record_at rs r) i) ρ (omega (arith, operand_lower rs fine.clear6 r i h k)) (inner r i h k c))
      (λ i k d β y. one_to m (operand (record_at rs r) i) (under ρ β) (omega (arith, operand_lower rs fine.clear6 r i h k)) (inner r i h k c)) in
      closed_node (λ A t. OneLeaf t) ⊥ r (one_closed r) (λ a σ. meaning_to (sheet table) m a σ) ρ (sheet table).pattern ((sheet table).node r) (no_choice r h c) all.plain_ones all.covered_ones

  -- THEOREM: the meaning of a condition, or of a record below one, is one leaf.
  pub condition_leaf : (r : ℕ) (ρ : State) → r < length rs → in_condition rs r ≡ true → OneLeaf (meaning (sheet table) r ρ)
  unfolding meaning
  condition_leaf r ρ h c = one_to (suc r) r ρ h c

  -- ---- the condition of a let-be

  module _ (r p t c b : ℕ) (is : (sheet table).node r ≡ let_be p t c b) where
    told : Tells (let_be p t c b) (record_at rs r) (kind_at rs r)
    told = subst (λ (m : Node). Tells m (record_at rs r) (kind_at rs r)) is (node_tells (record_at rs r))

    there : r < length rs
    there = by_lower r (length rs) (λ h. h) (λ h. let z : ◌≡◌ {A = ℕ} 0 13 = sym (ap (λ (q : Record). q.kind) (get_or-eq_default rs no_record h)) ∙ told.0 in absurd (omega arith))

    has : 2 < length (operands_of (record_at rs r))
    unfolding shape
    has =
        let four : (shape (kind_at rs r)).least ≡ 4 = ap (λ k. (shape k).least) told.0 in
        omega (arith, named_count (record_at rs r) (fine.fit r there), fit_least (record_at rs r) (fine.fit r there))

    its_role : role_at (record_at rs r) 2 ≡ Condition
    unfolding shape
    its_role = ap (λ k. get_or (shape k).roles 2 Plain) told.0

    pub let_be_condition : (ρ : State) → OneLeaf (meaning (sheet table) c ρ)
    let_be_condition ρ =
        let low = operand_lower rs fine.clear6 r 2 there has in
        let inside_one : in_condition rs (operand (record_at rs r) 2) ≡ true =
        condition_operand rs fine.clear6 r 2 there has ∙ ap (λ x. is_condition x || in_condition rs r) its_role in
        subst (λ x. OneLeaf (meaning (sheet table) x ρ)) (sym told.1) (condition_leaf (operand (record_at rs r) 2) ρ (omega (arith, there)) inside_one)
