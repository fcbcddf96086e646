-- What an accepted table's records say: they evaluate only lower ones, integer literals are in range, and enumerations have operands in the
-- numbers that their kinds ask for.
use Rattle.std.specs.Prelude.{◌≡◌, Bool, true, false, ◌&&◌, cond, List, [], ◌∷◌, ℕ, zero, suc, ◌+◌, ◌-◌, ◌%◌, ◌≤◌, ◌<◌, eqb, length, get_or, replicate}
use Rattle.std.proofs.Math.Path.{refl, ap, subst}
use Rattle.std.proofs.Common.{sym, ◌∙◌}
use native.Mathlib.Omega.{arith}
use Rattle.std.proofs.Math.Dec.{leb}
use Rattle.std.proofs.Math.ListN.{get_or-eq_default}
use borrow.Author.Tests.{eqb-true, leb-true}
use mathlib.Mathlib.Data.Bool.Basic.{and_elim_left, and_elim_right}
use Rattle.integers.specs.Whole.{InRange}
use Rattle.values.specs.Value.{Kind, set, sequence, map, tuple}
use Rattle.operators.specs.Booleans.{and, or, implies}
use Rattle.tables.specs.declared.Role.TheVariants.{Plain}
use Rattle.std.specs.Prelude.{Ok}
use Rattle.tables.specs.Record.{Record, shape, size, head_of, fits, named as operands_of, operator, operand, role_at, is_fit, is_known, integer_of, quote_of}
use Rattle.tables.specs.Table.{no_record, record_at}
use Rattle.tables.specs.Sheet.{is_covered}
use Rattle.tables.specs.Check.{check}
use Rattle.prelude.proofs.Truth.{by_lower}
use Rattle.tables.specs.Accepted.{records, Fine}
use Rattle.tables.proofs.Laws.Accepted.{accepted_fine, operand_lower, fit_least, fit_known, named_count}
use Rattle.meaning.specs.Node.{Node, truth, whole, named, unary_of, binary_of, connective, if, enumeration, range, let_in, let_be, quantified, iota, set_comprehension, sequence_comprehension, map_comprehension, application, quoted, no_expression}
use Rattle.meaning.specs.Read.{nodes, node_of, none, binary_node, sheet}
use Rattle.meaning.proofs.Laws.Equation.{covered, Each, Downward, plain_operands}

infixr 30 ◌&◌
-- A pair.
abbrev pub ◌&◌ : {A B : Type 0} → A → B → A × B
a & b = (a, b)

plain_roles : (n i : ℕ) → get_or (replicate n Plain) i Plain ≡ Plain
plain_roles zero i = refl
plain_roles (suc n) zero = refl
plain_roles (suc n) (suc i) = plain_roles n i

-- ---- a proper node

-- So many operands as the kind asks for: 2 to 4 in a tuple, as many keys as values in a map.
abbrev pub WellNumbered : Kind → ℕ → Type 0
WellNumbered set n = Unit {0}
WellNumbered sequence n = Unit {0}
WellNumbered map n = n % 2 ≡ 0
WellNumbered tuple n = (2 ≤ n) × (n ≤ 4)

-- The pattern's record of a binder.
abbrev pub binder_of : Node → ℕ
binder_of (truth b) = 0
binder_of (whole z) = 0
binder_of (named x) = 0
binder_of (unary_of op a) = 0
binder_of (binary_of op a b) = 0
binder_of (connective c a b) = 0
binder_of (if t a b) = 0
binder_of (enumeration k os) = 0
binder_of (range a b) = 0
binder_of (let_in p a b) = p
binder_of (let_be p s c b) = p
binder_of (quantified q p s c) = p
binder_of (iota p s c) = p
binder_of (set_comprehension p s c e) = p
binder_of (sequence_comprehension p s c e) = p
binder_of (map_comprehension p s c k e) = p
binder_of (application a b) = 0
binder_of (quoted n) = 0
binder_of no_expression = 0

abbrev pub Literal : Node → Type 0
Literal (truth b) = Unit {0}
Literal (whole z) = InRange z
Literal (named x) = Unit {0}
Literal (unary_of op a) = Unit {0}
Literal (binary_of op a b) = Unit {0}
Literal (connective c a b) = Unit {0}
Literal (if t a b) = Unit {0}
Literal (enumeration k os) = WellNumbered k (length os)
Literal (range a b) = Unit {0}
Literal (let_in p a b) = Unit {0}
Literal (let_be p s c b) = Unit {0}
Literal (quantified q p s c) = Unit {0}
Literal (iota p s c) = Unit {0}
Literal (set_comprehension p s c e) = Unit {0}
Literal (sequence_comprehension p s c e) = Unit {0}
Literal (map_comprehension p s c k e) = Unit {0}
Literal (application a b) = Unit {0}
Literal (quoted n) = n ≤ 65535
Literal no_expression = Unit {0}

-- Of a node: P of the records that it evaluates in its own state; C, with the binder's pattern, of those under its bindings; and literals.
pub record Proper (P : ℕ → Type 0) (C : ℕ → ℕ → Type 0) (n : Node) : Type 0 where
  pub plain_ones : Each P (plain_operands n)
  pub covered_ones : Each (C (binder_of n)) (covered n)
  pub literal : Literal n

-- ---- what is known of a record, by its kind

-- Record q is of kind k and fit for it; P of each operand that is not covered, C of each that is.
pub record Known (P : ℕ → Type 0) (C : ℕ → ℕ → Type 0) (k : ℕ) (q : Record) : Type 0 where
  pub kind_is : q.kind ≡ k
  pub fit : is_fit q ≡ true
  pub of_plain : (i : ℕ) → i < length (operands_of q) → role_at q i ≡ Plain → P (operand q i)
  pub of_covered : (i : ℕ) → i < length (operands_of q) → is_covered (role_at q i) ≡ true → C (operand q 0) (operand q i)

each_of : (P : ℕ → Type 0) (os : List ℕ) → ((i : ℕ) → i < length os → P (get_or os i 0)) → Each P os
each_of P [] h = tt
each_of P (a ∷ os) h = (h 0 (omega arith), each_of P os (λ i j. h (suc i) (omega arith)))

module _ (P : ℕ → Type 0) (C : ℕ → ℕ → Type 0) where
  -- For a node of each kind from k on.
  abbrev EachFrom : ℕ → List (Record → Node) → Type 0
  EachFrom k [] = Unit {0}
  EachFrom k (f ∷ fs) = ((q : Record) → Known P C k q → Proper P C (f q)) × EachFrom (suc k) fs

  none_proper : (q : Record) → Proper P C (none q)
  none_proper q = record { plain_ones = tt; covered_ones = tt; literal = tt }

  node_at : (k j : ℕ) (fs : List (Record → Node)) (q : Record) → EachFrom k fs → Known P C (k + j) q → Proper P C (get_or fs j none q)
  node_at k j [] q h i = none_proper q
  node_at k zero (f ∷ fs) q h i = h.0 q (let e : k + 0 ≡ k = omega arith in subst (λ m. Known P C m q) e i)
  node_at k (suc j) (f ∷ fs) q h i = node_at (suc k) j fs q h.1 (let e : k + suc j ≡ suc k + j = omega arith in subst (λ m. Known P C m q) e i)

  -- ---- kind by kind

  module _ (k : ℕ) (q : Record) (h : Known P C k q) where
    role_is : (i : ℕ) → role_at q i ≡ get_or (shape k).roles i Plain
    role_is i = ap (λ m. get_or (shape m).roles i Plain) h.kind_is

    count_known : length (operands_of q) ≡ length q.fields - size (shape k).head
    count_known = named_count q h.fit ∙ ap (λ m. length q.fields - size (shape m).head) h.kind_is

    -- A record's number of operands is fit for its kind.
    count_fit : fits (shape k) (length q.fields) ≡ true
    unfolding is_fit
    count_fit =
        subst (λ m. fits (shape m) (length q.fields) ≡ true) h.kind_is
        (and_elim_left (fits (shape q.kind) (length q.fields)) (is_known (head_of q) q) h.fit)

    there : (i : ℕ) → i < (shape k).least → i < length (operands_of q)
    there i l =
        let m = subst (λ x. i < (shape x).least) (sym h.kind_is) l in
        omega (arith, named_count q h.fit, fit_least q h.fit)

    -- Operand i, by its role in the shape of the kind.
    in_own : (i : ℕ) → i < (shape k).least → get_or (shape k).roles i Plain ≡ Plain → P (operand q i)
    in_own i l e = h.of_plain i (there i l) (role_is i ∙ e)

    in_bound : (i : ℕ) → i < (shape k).least → is_covered (get_or (shape k).roles i Plain) ≡ true → C (operand q 0) (operand q i)
    in_bound i l e = h.of_covered i (there i l) (ap is_covered (role_is i) ∙ e)

    -- All operands of an enumeration.
    all_own : (n : ℕ) → (shape k).roles ≡ replicate n Plain → Each P (operands_of q)
    all_own n e = each_of P (operands_of q) (λ i l. h.of_plain i l (role_is i ∙ ap (λ x. get_or x i Plain) e ∙ plain_roles n i))

  tuple_numbered : (q : Record) → Known P C 10 q → WellNumbered tuple (length (operands_of q))
  unfolding shape
  tuple_numbered q h =
      let c = count_known 10 q h in
      let e = and_elim_left (leb 2 (length q.fields) && leb (length q.fields) 4) _ (count_fit 10 q h) in
      let l = leb-true 2 (length q.fields) (and_elim_left _ (leb (length q.fields) 4) e) in
      let m = leb-true (length q.fields) 4 (and_elim_right (leb 2 (length q.fields)) _ e) in
      (omega arith, omega arith)

  map_numbered : (q : Record) → Known P C 9 q → WellNumbered map (length (operands_of q))
  unfolding shape
  map_numbered q h =
      let c = count_known 9 q h in
      let e = eqb-true _ 0 (and_elim_right (leb 0 (length q.fields) && leb (length q.fields) 8) (eqb ((length q.fields - 0) % 2) 0) (count_fit 9 q h)) in
      ap (λ m. m % 2) c ∙ e

  integer_literal : (q : Record) → Known P C 2 q → InRange (integer_of q)
  unfolding shape
  integer_literal q h = subst (λ m. is_known (shape m).head q ≡ true) h.kind_is (fit_known q h.fit)

  quote_literal : (q : Record) → Known P C 22 q → quote_of q ≤ 65535
  unfolding shape
  quote_literal q h = leb-true (quote_of q) 65535 (subst (λ m. is_known (shape m).head q ≡ true) h.kind_is (fit_known q h.fit))

  binary_proper : (op a b : ℕ) → P a → P b → Proper P C (binary_node op a b)
  binary_proper op a b h i = go (eqb op 1) (eqb op 2) (eqb op 3)
    where
      go : (x y z : Bool) → Proper P C (cond x (connective and a b) (cond y (connective or a b) (cond z (connective implies a b) (binary_of op a b))))
      go true y z = record { plain_ones = h & i & tt; covered_ones = tt; literal = tt }
      go false true z = record { plain_ones = h & i & tt; covered_ones = tt; literal = tt }
      go false false true = record { plain_ones = h & i & tt; covered_ones = tt; literal = tt }
      go false false false = record { plain_ones = h & i & tt; covered_ones = tt; literal = tt }

  each_node : EachFrom 0 nodes
  unfolding shape
  each_node =
      (λ q h. none_proper q)
      & (λ q h. record { plain_ones = tt; covered_ones = tt; literal = tt })
      & (λ q h. record { plain_ones = tt; covered_ones = tt; literal = integer_literal q h })
      & (λ q h. record { plain_ones = tt; covered_ones = tt; literal = tt })
      & (λ q h. record { plain_ones = in_own 4 q h 0 (omega arith) refl & tt; covered_ones = tt; literal = tt })
      & (λ q h. binary_proper (operator q) _ _ (in_own 5 q h 0 (omega arith) refl) (in_own 5 q h 1 (omega arith) refl))
      & (λ q h. record { plain_ones = in_own 6 q h 0 (omega arith) refl & in_own 6 q h 1 (omega arith) refl & in_own 6 q h 2 (omega arith) refl & tt; covered_ones = tt; literal = tt })
      & (λ q h. record { plain_ones = all_own 7 q h 8 refl; covered_ones = tt; literal = tt })
      & (λ q h. record { plain_ones = all_own 8 q h 8 refl; covered_ones = tt; literal = tt })
      & (λ q h. record { plain_ones = all_own 9 q h 8 refl; covered_ones = tt; literal = map_numbered q h })
      & (λ q h. record { plain_ones = all_own 10 q h 4 refl; covered_ones = tt; literal = tuple_numbered q h })
      & (λ q h. record { plain_ones = in_own 11 q h 0 (omega arith) refl & in_own 11 q h 1 (omega arith) refl & tt; covered_ones = tt; literal = tt })
      & (λ q h. record { plain_ones = in_own 12 q h 1 (omega arith) refl & tt; covered_ones = in_bound 12 q h 2 (omega arith) refl & tt; literal = tt })
      & (λ q h. record { plain_ones = in_own 13 q h 1 (omega arith) refl & tt; covered_ones = in_bound 13 q h 2 (omega arith) refl & in_bound 13 q h 3 (omega arith) refl & tt; literal = tt })
      & (λ q h. record { plain_ones = in_own 14 q h 1 (omega arith) refl & tt; covered_ones = in_bound 14 q h 2 (omega arith) refl & tt; literal = tt })
      & (λ q h. record { plain_ones = in_own 15 q h 1 (omega arith) refl & tt; covered_ones = in_bound 15 q h 2 (omega arith) refl & tt; literal = tt })
      & (λ q h. record { plain_ones = in_own 16 q h 1 (omega arith) refl & tt; covered_ones = in_bound 16 q h 2 (omega arith) refl & tt; literal = tt })
      & (λ q h. record { plain_ones = in_own 17 q h 1 (omega arith) refl & tt; covered_ones = in_bound 17 q h 2 (omega arith) refl & tt; literal = tt })
      & (λ q h. record { plain_ones = in_own 18 q h 1 (omega arith) refl & tt; covered_ones = in_bound 18 q h 2 (omega arith) refl & in_bound 18 q h 3 (omega arith) refl & tt; literal = tt })
      & (λ q h. record { plain_ones = in_own 19 q h 1 (omega arith) refl & tt; covered_ones = in_bound 19 q h 2 (omega arith) refl & in_bound 19 q h 3 (omega arith) refl & tt; literal = tt })
      & (λ q h. record { plain_ones = in_own 20 q h 1 (omega arith) refl & tt; covered_ones = in_bound 20 q h 2 (omega arith) refl & in_bound 20 q h 3 (omega arith) refl & in_bound 20 q h 4 (omega arith) refl & tt; literal = tt })
      & (λ q h. record { plain_ones = in_own 21 q h 0 (omega arith) refl & in_own 21 q h 1 (omega arith) refl & tt; covered_ones = tt; literal = tt })
      & (λ q h. record { plain_ones = tt; covered_ones = tt; literal = quote_literal q h })
      & tt

  -- The node of a record that is fit.
  node_proper : (q : Record) → Known P C q.kind q → Proper P C (node_of q)
  unfolding node_of
  node_proper q h = node_at 0 q.kind nodes q each_node (let e : q.kind ≡ 0 + q.kind = omega arith in subst (λ k. Known P C k q) e h)

-- ---- an accepted table

module _ (rs : List Record) (fine : Fine rs) (P : ℕ → Type 0) (C : ℕ → ℕ → Type 0) (r : ℕ) where
  -- A record of the table, where its operands are so.
  pub inside : r < length rs → ((i : ℕ) → i < length (operands_of (record_at rs r)) → role_at (record_at rs r) i ≡ Plain → P (operand (record_at rs r) i))
      → ((i : ℕ) → i < length (operands_of (record_at rs r)) → is_covered (role_at (record_at rs r) i) ≡ true → C (operand (record_at rs r) 0) (operand (record_at rs r) i))
      → Proper P C (node_of (record_at rs r))
  inside h f g = node_proper P C (record_at rs r) (record { kind_is = refl; fit = fine.fit r h; of_plain = f; of_covered = g })

  -- What stands for a record that is not there.
  pub outside : length rs ≤ r → Proper P C (node_of (record_at rs r))
  unfolding node_of
  outside h = subst (λ q. Proper P C (get_or nodes q.kind none q)) (sym (get_or-eq_default rs no_record h)) (none_proper P C no_record)

-- THEOREM: every record of an accepted table evaluates only lower ones, and its literals are proper. (So is what stands for a record that is
-- not there.)
pub proper : (table : List ℕ) (n : ℕ) → check table ≡ Ok n → (r : ℕ) → Proper (λ a. a < r) (λ p a. a < r) ((sheet table).node r)
proper table n ok r =
    let fine = (accepted_fine table n ok).0 in
    let rs = records table in
    by_lower r (length rs)
    (λ h. inside rs fine (λ a. a < r) (λ p a. a < r) r h (λ i k e. operand_lower rs fine.clear6 r i h k) (λ i k e. operand_lower rs fine.clear6 r i h k))
    (λ h. outside rs fine (λ a. a < r) (λ p a. a < r) r h)

pub downward : (table : List ℕ) (n : ℕ) → check table ≡ Ok n → Downward (sheet table)
downward table n ok r = let h = proper table n ok r in record { plain_ones = h.plain_ones; covered_ones = h.covered_ones }
