-- The operators on maps by their numbers.
use mathlib.Core.Path.{◌≡◌, ap}
use mathlib.Core.List.{List}
use Prim.Native.Nat.{ℕ, ◌≤◌}
use native.Mathlib.Omega.{arith}
use lib.Dec.{eqb}
use borrow.Author.Tests.{eqb-true, eqb-false}
use Rattle.prelude.proofs.Truth.{by_test}
use Rattle.values.specs.Value.{map}
use Rattle.values.specs.Contract.{KindAt}
use Rattle.operators.specs.Operators.{unary}
use Rattle.std.specs.Prelude.{Err}
use Rattle.prelude.specs.declared.Refusal.TheVariants.{WrongKind}
use Rattle.calling.specs.Applied.{OnOne}
use Rattle.calling.proofs.Kinding.{off_one}
use Rattle.calling.proofs.Numbered.{past_next, meet}
use Rattle.map_operators.proofs.Halving.{dom_answer, rng_answer}

pub not_fourteen : {n : ℕ} → n ≤ 15 → 14 ≤ n → (n ≡ 14 → ⊥) → n ≡ 15
not_fourteen high low f = omega (arith, f)

pub not_map : {s : List ℕ} {base kind n : ℕ} → 14 ≤ n → n ≤ 15 → KindAt s base kind → (kind ≡ 5 → ⊥) → OnOne (unary n) s s base (Err WrongKind)
unfolding unary
not_map {n = n} low high r f =
    by_test (eqb n 14)
    (λ e. off_one map {f = dom_answer} {g = unary n} (λ v. ap (λ (i : ℕ). unary i v) (eqb-true n 14 e)) r f)
    (λ e. off_one map {f = rng_answer} {g = unary n} (λ v. ap (λ (i : ℕ). unary i v) (not_fourteen high low (eqb-false n 14 e))) r f)

-- the last number, where it is none of the others
pub is_range_restriction : {n : ℕ} → n ≤ 28 → 25 ≤ n → (n ≡ 25 → ⊥) → (n ≡ 26 → ⊥) → (n ≡ 27 → ⊥) → n ≡ 28
is_range_restriction high low a b c = meet high (past_next (past_next (past_next low a) b) c)
