-- What a binder means, over its bindings, or over those that satisfy.
use mathlib.Core.Path.{◌≡◌, sym, ap, ◌∙◌}
use mathlib.Core.Bool.{Bool, true, false}
use mathlib.Core.List.{List, [], ◌∷◌}
use Prim.Native.Nat.{ℕ, zero, suc, ◌+◌, ◌-◌, ◌≤◌}
use native.Mathlib.Omega.{arith}
use lib.Dec.{eqb}
use lib.ListN.{length}
use Rattle.values.specs.Value.{Value, boolean, none}
use Rattle.choices.specs.Tree.{Tree, give, bind}
use Rattle.choices.proofs.Trees.{bind_assoc, bind_cong}
use Rattle.tables.specs.Table.{kind_at}
use Rattle.tables.specs.Accepted.{records}
use Rattle.patterns.specs.Binding.{Binding}
use Rattle.patterns.specs.Pattern.{loose}
use Rattle.patterns.specs.Binder.{formed}
use Rattle.meaning.specs.State.{State, under}
use Rattle.meaning.specs.Meaning.{formed_at, bindings_of, satisfying, matched, satisfied, unique, means}
use Rattle.evaluator.specs.Contract.{Legal, meant, operand_at}
use Rattle.evaluator.specs.Binding.{quantified, pattern_for, listed, surveyed, holds_in, adds_in, kind_for}
use Rattle.evaluator.proofs.Equations.{by_kind}
use Rattle.evaluator.proofs.Scanning.{scan}
use Rattle.evaluator.proofs.Collecting.{building}

-- What follows the bindings of each kind of binder, in a state.
module _ (table : List ℕ) (r : ℕ) (ρ : State) where
  -- A body under a binding.
  abbrev pub body_in : ℕ → Binding → Tree Value
  body_in i b = meant table (operand_at table r i) (under ρ b)

  abbrev pub let_in : List Binding → Tree Value
  let_in bs = bind (matched r (loose (pattern_for table r)) bs) (body_in 2)

  abbrev pub scan_in : Bool → List Binding → Tree Value
  scan_in want bs = scan want (meant table) r (operand_at table r 2) ρ bs

  abbrev pub build_in : ℕ → List Binding → Tree Value
  build_in k bs = building (holds_in table r ρ) (adds_in table r k ρ) (kind_for k) none bs

  -- What follows the satisfying ones.
  abbrev pub such_in : List Binding → Tree Value
  such_in sat = bind (satisfied r sat) (body_in 3)

  abbrev pub count_in : List Binding → Tree Value
  count_in sat = give (boolean (eqb (length sat) 1))

  abbrev pub unique_in : List Binding → Tree Value
  unique_in sat = unique r (pattern_for table r) sat

module _ {table : List ℕ} (L : Legal table) (r : ℕ) (ρ : State) where
  abbrev found : Tree (List Binding)
  found = bindings_of (meant table) r (pattern_for table r) (operand_at table r 1) ρ

  abbrev passed : List Binding → Tree (List Binding)
  passed bs = satisfying (meant table) r (operand_at table r 2) ρ bs

  pub mean_let : kind_at (records table) r ≡ 12 → meant table r ρ ≡ bind (listed table r 12 ρ) (let_in table r ρ)
  unfolding means
  mean_let e = by_kind L r ρ 12 e ∙ sym (bind_assoc (meant table (operand_at table r 1) ρ) (λ v. formed_at r (formed (pattern_for table r) (v ∷ []))) (let_in table r ρ))

  pub mean_let_be : kind_at (records table) r ≡ 13 → meant table r ρ ≡ bind (surveyed table r ρ) (such_in table r ρ)
  unfolding means
  mean_let_be e = by_kind L r ρ 13 e ∙ sym (bind_assoc found passed (such_in table r ρ))

  pub mean_quantifier : (want : Bool) → kind_at (records table) r ≡ quantified want → meant table r ρ ≡ bind (listed table r (quantified want) ρ) (scan_in table r ρ want)
  unfolding means
  mean_quantifier true e = by_kind L r ρ 15 e
  mean_quantifier false e = by_kind L r ρ 14 e

  pub mean_exists1 : kind_at (records table) r ≡ 16 → meant table r ρ ≡ bind (surveyed table r ρ) (count_in table r ρ)
  unfolding means
  mean_exists1 e =
      by_kind L r ρ 16 e ∙ bind_cong found _ _ (λ bs. bind_assoc (passed bs) (λ sat. give (eqb (length sat) 1)) (λ t. give (boolean t))) ∙ sym (bind_assoc found passed (count_in table r ρ))

  pub mean_iota : kind_at (records table) r ≡ 17 → meant table r ρ ≡ bind (surveyed table r ρ) (unique_in table r ρ)
  unfolding means
  mean_iota e = by_kind L r ρ 17 e ∙ sym (bind_assoc found passed (unique_in table r ρ))

  pub mean_comprehension : (k : ℕ) → 18 ≤ k → k ≤ 20 → kind_at (records table) r ≡ k → meant table r ρ ≡ bind (listed table r k ρ) (build_in table r ρ k)
  unfolding means
  mean_comprehension k l h e = go (k - 18) (let z : k ≡ 18 + (k - 18) = omega arith in z)
    where
      at : (m : ℕ) → k ≡ m → (kind_at (records table) r ≡ m → meant table r ρ ≡ bind (listed table r m ρ) (build_in table r ρ m)) → meant table r ρ ≡ bind (listed table r k ρ) (build_in table r ρ k)
      at m z f = f (e ∙ z) ∙ ap (λ (x : ℕ). bind (listed table r x ρ) (build_in table r ρ x)) (sym z)

      go : (d : ℕ) → k ≡ 18 + d → meant table r ρ ≡ bind (listed table r k ρ) (build_in table r ρ k)
      go zero z = at 18 z (λ q. by_kind L r ρ 18 q)
      go (suc zero) z = at 19 z (λ q. by_kind L r ρ 19 q)
      go (suc (suc zero)) z = at 20 z (λ q. by_kind L r ρ 20 q)
      go (suc (suc (suc d))) z = absurd (omega arith)
