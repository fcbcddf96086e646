-- Document 01: an outcome is a value, or a refusal with its number and its place.
use Rattle.std.specs.Prelude.{ℕ}

pub data Outcome (A : Type 0) : Type 0 where
  value : A → Outcome A
  refusal : ℕ → ℕ → Outcome A
