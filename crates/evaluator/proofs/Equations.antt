-- What a record of each kind means, over what its operands mean.
use mathlib.Core.Path.{◌≡◌, refl, sym, ap, subst, ◌∙◌}
use mathlib.Core.Bool.{Bool, true, false, cond}
use mathlib.Core.Logic.{◌⊎◌, inl, inr}
use mathlib.Core.List.{List}
use Prim.Native.Nat.{ℕ, ◌%◌, ◌≤◌, ◌<◌}
use native.Mathlib.Omega.{arith}
use lib.Dec.{eqb}
use lib.ListN.{length, get_or, get_or-eq_default}
use borrow.Author.Tests.{ne_eqb, eqb-false}
use Rattle.values.specs.Value.{Kind, set, sequence, map, tuple, boolean, integer, quote}
use Rattle.choices.specs.Tree.{give, stop, bind}
use Rattle.operators.specs.Booleans.{and, or, implies, left}
use Rattle.operators.specs.Sets.{range_of}
use Rattle.operators.specs.Maps.{apply_to}
use Rattle.operators.specs.Operators.{unary, binary}
use Rattle.tables.specs.Record.{Record, named as operands_of, operand, operator, name_of, boolean_of, integer_of, quote_of}
use Rattle.tables.specs.Table.{record_at, kind_at}
use Rattle.tables.specs.Accepted.{records}
use Rattle.scalars.specs.Connectives.{connective as connective_of}
use Rattle.meaning.specs.Node.{Node, binary_of, connective, no_expression}
use Rattle.meaning.specs.State.{State, value_in}
use Rattle.meaning.specs.Meaning.{all_of, enumerated, at, or_else, both_of, right_of, is_true, means}
use Rattle.meaning.specs.Read.{nodes, none, node_of, binary_node, sheet}
use Rattle.meaning.proofs.Laws.Equation.{meaning_is}
use Rattle.meaning.proofs.Laws.Proper.{Literal, proper, downward}
use Rattle.evaluator.specs.Contract.{Legal, meant}

module _ {table : List ℕ} (L : Legal table) (r : ℕ) (ρ : State) where
  abbrev pub q : Record
  q = record_at (records table) r

  by_node : (n : Node) → node_of q ≡ n → meant table r ρ ≡ means (sheet table).pattern (meant table) r n ρ
  by_node n e = meaning_is (sheet table) (downward table L.count L.ok) r ρ ∙ ap (λ (x : Node). means (sheet table).pattern (meant table) r x ρ) e

  pub by_kind : (k : ℕ) → kind_at (records table) r ≡ k → meant table r ρ ≡ means (sheet table).pattern (meant table) r (get_or nodes k none q) ρ
  unfolding node_of
  by_kind k e = by_node (get_or nodes k none q) (ap (λ (m : ℕ). get_or nodes m none q) e)

  pub mean_truth : kind_at (records table) r ≡ 1 → meant table r ρ ≡ give (boolean (boolean_of q))
  unfolding means
  mean_truth e = by_kind 1 e

  pub mean_whole : kind_at (records table) r ≡ 2 → meant table r ρ ≡ give (integer (integer_of q))
  unfolding means
  mean_whole e = by_kind 2 e

  pub mean_quote : kind_at (records table) r ≡ 22 → meant table r ρ ≡ give (quote (quote_of q))
  unfolding means
  mean_quote e = by_kind 22 e

  pub mean_name : kind_at (records table) r ≡ 3 → meant table r ρ ≡ or_else 20 r (value_in ρ (name_of q))
  unfolding means
  mean_name e = by_kind 3 e

  pub mean_unary : kind_at (records table) r ≡ 4 → meant table r ρ ≡ bind (meant table (operand q 0) ρ) (λ v. at r (unary (operator q) v))
  unfolding means
  mean_unary e = by_kind 4 e

  strict_node : (op a b : ℕ) → 3 < op → binary_node op a b ≡ binary_of op a b
  strict_node op a b l = rw (ne_eqb op 1 (λ e. omega arith), ne_eqb op 2 (λ e. omega arith), ne_eqb op 3 (λ e. omega arith)) refl

  pub mean_binary : kind_at (records table) r ≡ 5 → 3 < operator q → meant table r ρ ≡ both_of (meant table) (operand q 0) (operand q 1) ρ (λ v w. at r (binary (operator q) v w))
  unfolding means
  mean_binary e l = by_kind 5 e ∙ ap (λ (x : Node). means (sheet table).pattern (meant table) r x ρ) (strict_node (operator q) (operand q 0) (operand q 1) l)

  logic_node : (op a b : ℕ) → 1 ≤ op → op ≤ 3 → binary_node op a b ≡ connective (connective_of op) a b
  logic_node op a b l h = go (eqb op 1) (eqb op 2) (eqb op 3) refl refl refl
    where
      go : (x y z : Bool) → eqb op 1 ≡ x → eqb op 2 ≡ y → eqb op 3 ≡ z → cond x (connective and a b) (cond y (connective or a b) (cond z (connective implies a b) (binary_of op a b))) ≡ connective (cond x and (cond y or implies)) a b
      go true y z e f g = refl
      go false true z e f g = refl
      go false false true e f g = refl
      go false false false e f g = absurd (omega (arith, eqb-false op 1 e, eqb-false op 2 f, eqb-false op 3 g))

  pub mean_logic : kind_at (records table) r ≡ 5 → 1 ≤ operator q → operator q ≤ 3 → meant table r ρ ≡ bind (meant table (operand q 0) ρ) (λ v. right_of (meant table) r (operand q 1) ρ (left (connective_of (operator q)) v))
  unfolding means
  mean_logic e l h = by_kind 5 e ∙ ap (λ (x : Node). means (sheet table).pattern (meant table) r x ρ) (logic_node (operator q) (operand q 0) (operand q 1) l h)

  pub mean_if : kind_at (records table) r ≡ 6 → meant table r ρ ≡ bind (meant table (operand q 0) ρ) (λ v. bind (is_true r v) (λ y. cond y (meant table (operand q 1) ρ) (meant table (operand q 2) ρ)))
  unfolding means
  mean_if e = by_kind 6 e

  pub mean_two : (kind_at (records table) r ≡ 11 → meant table r ρ ≡ both_of (meant table) (operand q 0) (operand q 1) ρ (λ v w. at r (range_of v w))) × (kind_at (records table) r ≡ 21 → meant table r ρ ≡ both_of (meant table) (operand q 0) (operand q 1) ρ (λ v w. at r (apply_to v w)))
  unfolding means
  mean_two = (λ e. by_kind 11 e, λ e. by_kind 21 e)

  -- enumerations
  pub mean_many : (k : Kind) {m : ℕ} → kind_at (records table) r ≡ m → ((m ≡ 7) × (k ≡ set)) ⊎ (((m ≡ 8) × (k ≡ sequence)) ⊎ (((m ≡ 9) × (k ≡ map)) ⊎ ((m ≡ 10) × (k ≡ tuple)))) → meant table r ρ ≡ bind (all_of (meant table) (operands_of q) ρ) (λ vs. at r (enumerated k vs))
  unfolding means
  mean_many k e (inl (f, g)) = by_kind 7 (e ∙ f) ∙ ap (λ (x : Kind). bind (all_of (meant table) (operands_of q) ρ) (λ vs. at r (enumerated x vs))) (sym g)
  mean_many k e (inr (inl (f, g))) = by_kind 8 (e ∙ f) ∙ ap (λ (x : Kind). bind (all_of (meant table) (operands_of q) ρ) (λ vs. at r (enumerated x vs))) (sym g)
  mean_many k e (inr (inr (inl (f, g)))) = by_kind 9 (e ∙ f) ∙ ap (λ (x : Kind). bind (all_of (meant table) (operands_of q) ρ) (λ vs. at r (enumerated x vs))) (sym g)
  mean_many k e (inr (inr (inr (f, g)))) = by_kind 10 (e ∙ f) ∙ ap (λ (x : Kind). bind (all_of (meant table) (operands_of q) ρ) (λ vs. at r (enumerated x vs))) (sym g)

  -- so many operands as the kind asks for
  literal_here : (k : ℕ) → kind_at (records table) r ≡ k → Literal (get_or nodes k none q)
  unfolding node_of
  literal_here k e = subst (λ (m : ℕ). Literal (get_or nodes m none q)) e (proper table L.count L.ok r).literal

  pub map_even : kind_at (records table) r ≡ 9 → length (operands_of q) % 2 ≡ 0
  map_even e = literal_here 9 e

  pub tuple_few : kind_at (records table) r ≡ 10 → (2 ≤ length (operands_of q)) × (length (operands_of q) ≤ 4)
  tuple_few e = literal_here 10 e

  none_after : 23 ≤ kind_at (records table) r → node_of q ≡ no_expression
  unfolding node_of
  none_after l = ap (λ (f : Record → Node). f q) (get_or-eq_default nodes none {n = kind_at (records table) r} (omega arith))

  pub mean_pattern : 23 ≤ kind_at (records table) r → meant table r ρ ≡ stop 20 r
  unfolding means
  mean_pattern l = by_node no_expression (none_after l)

  pub mean_nothing : kind_at (records table) r ≡ 0 → meant table r ρ ≡ stop 20 r
  unfolding means
  mean_nothing e = by_kind 0 e
