-- Operators by the number that was asked for.
use mathlib.Core.Path.{◌≡◌, sym, ap, subst, ◌∙◌}
use mathlib.Core.List.{List}
use Prim.Native.Nat.{ℕ, suc, ◌+◌, ◌≤◌, ◌<◌}
use native.Mathlib.Omega.{arith}
use borrow.Author.Tests.{eqb-true, eqb-false}
use lib.Dec.{eqb}
use Rattle.prelude.proofs.Truth.{by_test}
use Rattle.values.specs.Value.{Kind, Value, Items}
use Rattle.operators.specs.Answer.{Answer, as_kind, needs}
use Rattle.operators.specs.Operators.{unary, binary}
use Rattle.calling.specs.Applied.{Applied}
use Rattle.calling.specs.Applied.{OnOne, OnTwo}
use Rattle.calling.specs.Operands.{Has, OnItems}
use Rattle.calling.proofs.Kinding.{on_one}

-- ---- the operator that has this number

pub unary_as : {s t : List ℕ} {base n : ℕ} {r : Applied} (m : ℕ) → n ≡ m → OnOne (unary m) s t base r → OnOne (unary n) s t base r
unary_as {s} {t} {base} {n} {r} m e o = subst (λ (k : ℕ). OnOne (unary k) s t base r) (sym e) o

pub binary_as : {s t : List ℕ} {base n : ℕ} {r : Applied} (m : ℕ) → n ≡ m → OnTwo (binary m) s t base r → OnTwo (binary n) s t base r
binary_as {s} {t} {base} {n} {r} m e o = subst (λ (k : ℕ). OnTwo (binary k) s t base r) (sym e) o

pub on_unary : {k : Kind} {f : Items → Answer} {n m : ℕ} → n ≡ m → ((v : Value) → unary m v ≡ needs (as_kind k v) f) → {s t : List ℕ} {base : ℕ} {r : Applied} → Has k s base → OnItems k f s t base r → OnOne (unary n) s t base r
on_unary e f = on_one (λ v. ap (λ (i : ℕ). unary i v) e ∙ f v)

-- ---- what holds of n numbers, one after another, holds of each of them

pub data Run (P : ℕ → Type 0) : ℕ → ℕ → Type 0 where
  end : {low : ℕ} → Run P low 0
  ◌▹◌ : {low n : ℕ} → P low → Run P (suc low) n → Run P low (suc n)

infixr 5 ◌▹◌
pub at_each : {P : ℕ → Type 0} {low n : ℕ} → Run P low n → (k : ℕ) → low ≤ k → k < low + n → P k
at_each end k h g = absurd (omega arith)
at_each {P} {low} (p ▹ ps) k h g =
    by_test (eqb k low) (λ e. subst P (sym (eqb-true k low e)) p)
    (λ e. let d : (k ≡ low → ⊥) = eqb-false k low e in at_each ps k (omega arith) (omega arith))

-- ---- what is left of a run of numbers after some of them

pub past_next : {k n : ℕ} → n ≤ k → (k ≡ n → ⊥) → suc n ≤ k
past_next h f = omega (arith, f)

pub meet : {k n : ℕ} → k ≤ n → n ≤ k → k ≡ n
meet h g = omega arith
