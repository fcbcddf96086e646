-- `unary_scalar` meets its contract, by what it calls.
use mathlib.Core.Path.{ap}
use Prim.Native.Nat.{ℕ}
use Rattle.operators.specs.Operators.{unary}
use Rattle.calling.proofs.Answering.{one_same}
use Rattle.scalars.proofs.unary_scalar.Goals as goal

pub returns-then-operator-eq-NOT : goal.returns-then-operator-eq-NOT
returns-then-operator-eq-NOT c = one_same (λ v. ap (λ (k : ℕ). unary k v) c.if-operator-eq-NOT.true) c.negation.ensures
