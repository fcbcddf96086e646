-- Patterns that are only a test: every name in them has a value already.
use Rattle.std.specs.Prelude.{◌≡◌, Bool, true, List, ℕ, ◌<◌, length, get_or}
use Rattle.tables.specs.Record.{is_composed, named as operands_of, operand}
use Rattle.tables.specs.Table.{record_at, kind_at}
use Rattle.tables.specs.Accepted.{records}
use Rattle.patterns.specs.Binding.{names}
use Rattle.patterns.specs.Pattern.{Pattern}
use Rattle.patterns.specs.Pattern.{holds_named as named}
use Rattle.patterns.specs.Read.{pattern_at}

-- Each name of the pattern has a word.
abbrev pub Settled : Pattern → List ℕ → Type 0
Settled p words = (y : ℕ) → y < names → named p y ≡ true → get_or words y 0 ≡ 0 → ⊥

pub record TellsSettled (table : List ℕ) (p : ℕ) (m : List ℕ) (r : Bool) : Type 0 where
  pub says : r ≡ true → Settled (pattern_at (records table) p) m
  pub each : r ≡ true → is_composed (kind_at (records table) p) ≡ true → (j : ℕ) → j < length (operands_of (record_at (records table) p)) → Settled (pattern_at (records table) (operand (record_at (records table) p) j)) m

pub record HasWord (m : List ℕ) (x : ℕ) (r : Bool) : Type 0 where
  pub says : r ≡ true → get_or m x 0 ≡ 0 → ⊥
