-- Two constructors are never equal.
use mathlib.Core.Path.{◌≡◌}
use mathlib.Core.Bool.{true, false, false≢true}
use mathlib.Core.Option.{Option, none, some}
use Prim.Native.Nat.{ℕ}
use native.Mathlib.Omega.{arith}

-- Where the facts in scope say that two constructors are equal, `impossible cc` proves anything.
pub impossible {ℓ} : {X : Type ℓ} → ◌≡◌ {A = ℕ} 0 1 → X
impossible e = absurd (omega arith)

pub true_false {ℓ} : {X : Type ℓ} → true ≡ false → X
true_false e = impossible cc

pub never {ℓ} : {X : Type ℓ} → false ≡ true → X
never e = absurd (false≢true e)

pub none-some : {X A : Type 0} {o : Option A} {a : A} → o ≡ none → o ≡ some a → X
none-some e f = impossible cc
