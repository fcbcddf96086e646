-- `binary_scalar` meets its contract, by what it calls.
use mathlib.Core.Path.{ap}
use Prim.Native.Nat.{ℕ}
use Rattle.operators.specs.Operators.{binary}
use Rattle.calling.proofs.Answering.{two_same}
use Rattle.scalars.proofs.binary_scalar.Goals as goal

pub returns-then-operator-eq-EQUIVALENT : goal.returns-then-operator-eq-EQUIVALENT
returns-then-operator-eq-EQUIVALENT c =
    two_same (λ v w. ap (λ (k : ℕ). binary k v w) c.if-operator-eq-EQUIVALENT.true) c.biimplication.ensures
