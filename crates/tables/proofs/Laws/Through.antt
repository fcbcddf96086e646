-- Going through the operands of a record from the first on: what holds of each of them up to a place.
use Rattle.std.specs.Prelude.{◌≡◌, ℕ, ◌+◌, ◌<◌}
use Rattle.std.proofs.Common.{ap, subst, ◌∙◌, arith}
use Rattle.prelude.proofs.Truth.{by_lower}
use Rattle.tables.specs.Record.{Record, operand}

-- What P says of a record holds of each operand before i.
abbrev pub EachTo : (ℕ → Type 0) → Record → ℕ → Type 0
EachTo P x i = (j : ℕ) → j < i → P (operand x j)

module _ (P : ℕ → Type 0) (x : Record) where
  pub each_start : EachTo P x 0
  each_start j l = absurd (omega arith)

  pub each_next : (i q : ℕ) → EachTo P x i → q ≡ operand x i → P q → EachTo P x (i + 1)
  each_next i q h e y j l =
      by_lower j i (λ k. h j k) (λ k. let d : i ≡ j = omega arith in subst P (e ∙ ap (operand x) d) y)
