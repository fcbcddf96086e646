-- Scratch from a base on: how it is shared out, and what stays as it was.
use Rattle.std.specs.Prelude.{◌≡◌, List, ℕ, length, take}
use Rattle.values.specs.Value.{value_limit}

-- How far above the base a second operand stands: a value's limit.
abbrev pub second : ℕ
second = value_limit

-- How far above the base an operator builds where it still needs both operands: two values' limits.
abbrev pub third : ℕ
third = 1024

-- How many bytes an operator may use, from the base on: three values' limits.
abbrev pub workspace : ℕ
workspace = 1536

-- t is what became of s: everything below base is as it was.
pub record Kept (s t : List ℕ) (base : ℕ) : Type 0 where
  pub long : length t ≡ length s
  pub below : take base t ≡ take base s
