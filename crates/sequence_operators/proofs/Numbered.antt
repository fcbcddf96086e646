-- The unary operators on sequences by their numbers. Assumes nothing.
use mathlib.Core.Path.{◌≡◌, refl, subst}
use mathlib.Core.List.{List}
use Prim.Native.Nat.{ℕ, zero, suc, ◌+◌, ◌-◌, ◌≤◌}
use native.Mathlib.Omega.{arith}
use Rattle.values.specs.Value.{sequence, Value, Items}
use Rattle.values.specs.Contract.{KindAt}
use Rattle.operators.specs.Answer.{Answer, as_sequence, needs}
use Rattle.operators.specs.Operators.{unary}
use Rattle.std.specs.Prelude.{Err}
use Rattle.prelude.specs.declared.Refusal.TheVariants.{WrongKind}
use Rattle.calling.specs.Applied.{OnOne}
use Rattle.calling.proofs.Kinding.{off_one}
use Rattle.calling.proofs.Numbered.{past_next, meet}

-- It asks for a sequence.
pub record Asks (n : ℕ) : Type 0 where
  pub answer : Items → Answer
  pub is : (v : Value) → unary n v ≡ needs (as_sequence v) answer

asks : (m : ℕ) → m ≤ 6 → Asks (7 + m)
unfolding unary
asks zero h = record { answer = _; is = λ v. refl }
asks (suc zero) h = record { answer = _; is = λ v. refl }
asks (suc (suc zero)) h = record { answer = _; is = λ v. refl }
asks (suc (suc (suc zero))) h = record { answer = _; is = λ v. refl }
asks (suc (suc (suc (suc zero)))) h = record { answer = _; is = λ v. refl }
asks (suc (suc (suc (suc (suc zero))))) h = record { answer = _; is = λ v. refl }
asks (suc (suc (suc (suc (suc (suc zero)))))) h = record { answer = _; is = λ v. refl }
asks (suc (suc (suc (suc (suc (suc (suc m))))))) h = absurd (omega arith)

pub not_sequence : {s : List ℕ} {base kind n : ℕ} → 7 ≤ n → n ≤ 13 → KindAt s base kind → (kind ≡ 4 → ⊥) → OnOne (unary n) s s base (Err WrongKind)
not_sequence {n = n} low high r f =
    let e : 7 + (n - 7) ≡ n = omega arith in
    let a : Asks n = subst Asks e (asks (n - 7) (omega arith)) in
    off_one sequence {f = a.answer} a.is r f

-- the last number, where it is none of the others
pub is_reverse : {n : ℕ} → n ≤ 13 → 7 ≤ n → (n ≡ 7 → ⊥) → (n ≡ 8 → ⊥) → (n ≡ 9 → ⊥) → (n ≡ 10 → ⊥) → (n ≡ 11 → ⊥) → (n ≡ 12 → ⊥) → n ≡ 13
is_reverse high low a b c d e f = meet high (past_next (past_next (past_next (past_next (past_next (past_next low a) b) c) d) e) f)
