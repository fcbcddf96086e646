-- What the functions that build a comprehension have in reach.
use mathlib.Core.Path.{◌≡◌, subst, ◌∙◌}
use mathlib.Core.Logic.{◌⊎◌, inl, inr}
use mathlib.Core.List.{List}
use Prim.Native.Nat.{ℕ, zero, suc, ◌+◌, ◌-◌, ◌<◌}
use native.Mathlib.Omega.{arith}
use Rattle.choices.specs.State.{Choices}
use Rattle.tables.specs.Record.{shape}
use Rattle.tables.specs.Reading.{HasOperand}
use Rattle.bindings.specs.declared.Cursor.{Cursor}
use Rattle.parts.specs.declared.words.Env.{Env}
use Rattle.evaluator.specs.Binding.{Placed, Comprehension, adds_in, Extends, Extended}
use Rattle.evaluator.proofs.Tables.{has_operand}

pub which_one : {k : ℕ} → Comprehension k → k < 20 → (k ≡ 18) ⊎ (k ≡ 19)
which_one {k} h l = go (k - 18) (let z : k ≡ 18 + (k - 18) = omega (arith, h.0) in z)
  where
    go : (d : ℕ) → k ≡ 18 + d → (k ≡ 18) ⊎ (k ≡ 19)
    go zero e = inl e
    go (suc zero) e = inr e
    go (suc (suc d)) e = absurd (omega arith)

module _ {table : List ℕ} {r k : ℕ} {s : List ℕ} {base : ℕ} {env : Env} {c : Choices} {cursor : Cursor} {j : ℕ} (a : Extends table r k s base env c cursor j) where
  pub extends_has : (i : ℕ) → i < 4 → HasOperand table r i
  unfolding shape
  extends_has i l = go (k - 18) (let z : k ≡ 18 + (k - 18) = omega (arith, a.comprehension.0) in z)
    where
      go : (d : ℕ) → k ≡ 18 + d → HasOperand table r i
      go zero e = has_operand a.stands.asked (a.kind ∙ e) i (omega arith)
      go (suc zero) e = has_operand a.stands.asked (a.kind ∙ e) i (omega arith)
      go (suc (suc zero)) e = has_operand a.stands.asked (a.kind ∙ e) i (omega arith)
      go (suc (suc (suc d))) e = absurd (omega (arith, a.comprehension.1))

  pub pair_has : k ≡ 20 → HasOperand table r 4
  unfolding shape
  pair_has e = has_operand a.stands.asked (a.kind ∙ e) 4 (omega arith)

  pub extends_as : {m : ℕ} → k ≡ m → Extends table r m s base env c cursor j
  extends_as e = subst (λ (n : ℕ). Extends table r n s base env c cursor j) e a

pub extended_as : {table : List ℕ} {r k m : ℕ} {s t : List ℕ} {base : ℕ} {env : Env} {c d : Choices} {cursor : Cursor} (j : ℕ) {x : Placed} → m ≡ k → Extended (adds_in table r m) table r m s t base env c cursor j x d → Extended (adds_in table r k) table r k s t base env c cursor j x d
extended_as {table} {r} {k} {m} {s} {t} {base} {env} {c} {d} {cursor} j {x} e f = subst (λ (n : ℕ). Extended (adds_in table r n) table r n s t base env c cursor j x d) e f
