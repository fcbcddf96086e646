-- Wildcards beside wildcards in a concatenation: what a pattern and the pattern that is left of it without them have in common.
use Rattle.std.specs.Prelude.{◌≡◌, Bool, true, false, List, ◌++◌, ℕ, zero, suc, ◌-◌, ◌≤◌, ◌<◌}
use Rattle.values.specs.Value.{sequence, Value, collection}
use Rattle.tables.specs.Record.{operand}
use Rattle.tables.specs.Table.{record_at, kind_at}
use Rattle.tables.specs.Accepted.{records}
use Rattle.patterns.specs.Members.{Alike}
use Rattle.patterns.specs.Binding.{Binding, nothing}
use Rattle.patterns.specs.Pattern.{Pattern, items_of, matches, wide}
use Rattle.patterns.specs.Relation.{Matches}
use Rattle.patterns.specs.Read.{Readable, pattern_at}
use Rattle.forming.specs.Inner.{Composed, inner}

-- The pattern matches every sequence, and gives no name a value.
pub record AcceptsAll (p : Pattern) : Type 0 where
  pub all : (vs : List Value) → Matches p (collection sequence (items_of vs)) nothing
  pub only : (v : Value) (b : Binding) → Matches p v b → b ≡ nothing

-- The first list is the third with the second before it (side 0) or after it.
abbrev pub Beside : ℕ → List Value → List Value → List Value → Type 0
Beside zero vs es rs = vs ≡ es ++ rs
Beside (suc n) vs es rs = vs ≡ rs ++ es

-- What the pattern matches, it matches with the same binding where more is beside it.
abbrev pub TakesMore : ℕ → Pattern → Type 0
TakesMore side p = (vs es rs : List Value) (b : Binding) → Beside side vs es rs → Matches p (collection sequence (items_of rs)) b → Matches p (collection sequence (items_of vs)) b

-- ---- what the functions tell of pattern record p

abbrev pub TellsAll : List ℕ → ℕ → Bool → Type 0
TellsAll table p r = r ≡ true → AcceptsAll (pattern_at (records table) p)

abbrev pub TellsMore : List ℕ → ℕ → ℕ → Bool → Type 0
TellsMore table p side r = r ≡ true → TakesMore side (pattern_at (records table) p)

pub record SpareHeld (table : List ℕ) (p side : ℕ) : Type 0 where
  pub readable : Readable table p
  pub of_kind : kind_at (records table) p ≡ 40
  pub low : side < 2

-- Record r has the same bindings as p, with no more parts.
pub record Reduced (table : List ℕ) (p r : ℕ) : Type 0 where
  pub composed : Composed table r
  pub low : r ≤ p
  pub alike : (v : Value) → Alike (matches (pattern_at (records table) p) v) (matches (pattern_at (records table) r) v)
  pub narrow : (v : Value) → wide (pattern_at (records table) p) v ≡ false → wide (pattern_at (records table) r) v ≡ false
  pub fewer : inner (pattern_at (records table) r) ≤ inner (pattern_at (records table) p)

-- The half beside the one at this side is left.
abbrev pub TellsSpare : List ℕ → ℕ → ℕ → Bool → Type 0
TellsSpare table p side r = r ≡ true → Reduced table p (operand (record_at (records table) p) (1 - side))
