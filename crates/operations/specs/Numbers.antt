-- Which numbers the strict operators have: document 01, "Table records".
use Rattle.std.specs.Prelude.{ℕ, ◌≤◌}

-- 1 not to 15 rng.
pub record Unary (operator : ℕ) : Type 0 where
  pub low : 1 ≤ operator
  pub high : operator ≤ 15

-- 4 <=> to 28 :>. (1 and, 2 or and 3 => may not evaluate their right.)
pub record Binary (operator : ℕ) : Type 0 where
  pub low : 4 ≤ operator
  pub high : operator ≤ 28
