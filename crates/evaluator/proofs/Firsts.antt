-- Where the operands of a record begin: after its operator in kinds 4 and 5, after its heading from kind 6 on.
use mathlib.Core.Path.{◌≡◌, ◌∙◌}
use mathlib.Core.Logic.{◌⊎◌, inl, inr}
use Prim.Native.Nat.{ℕ, ◌≤◌}
use native.Mathlib.Omega.{arith}
use Rattle.tables.specs.Shapes.{first_of}
use Rattle.tables.proofs.Laws.Kinds.{plain_begins, operator_begins}
use Rattle.evaluator.specs.Building.{Enumerated}
use Rattle.evaluator.specs.Binding.{Binder}

pub after_unary : {k : ℕ} → k ≡ 4 → 5 ≡ first_of k
after_unary {k} e = operator_begins k (omega arith) (omega arith)

pub after_binary : {k : ℕ} → k ≡ 5 → 5 ≡ first_of k
after_binary {k} e = operator_begins k (omega arith) (omega arith)

pub plain_first : {k n : ℕ} → k ≡ n → 6 ≤ n → n ≤ 21 → 4 ≡ first_of k
plain_first {k} e l m = plain_begins k (omega arith) (omega arith)

pub binder_first : {k : ℕ} → Binder k → 4 ≡ first_of k
binder_first {k} b = plain_begins k (omega (arith, b.0)) (omega (arith, b.1))

pub enumerated_first : {k n : ℕ} → k ≡ n → Enumerated n → 4 ≡ first_of k
enumerated_first e (inl x) = plain_first (e ∙ x) (omega arith) (omega arith)
enumerated_first e (inr (inl x)) = plain_first (e ∙ x) (omega arith) (omega arith)
enumerated_first e (inr (inr x)) = plain_first (e ∙ x) (omega arith) (omega arith)

pub two_first : {k : ℕ} → (k ≡ 5) ⊎ ((k ≡ 11) ⊎ (k ≡ 21)) → (k ≡ 5 → ⊥) → 4 ≡ first_of k
two_first (inl x) n = absurd (n x)
two_first (inr (inl x)) n = plain_first x (omega arith) (omega arith)
two_first (inr (inr x)) n = plain_first x (omega arith) (omega arith)
