-- Patterns with parts, and how many parts there are inside a pattern.
use Rattle.std.specs.Prelude.{◌≡◌, true, List, ℕ, suc, ◌+◌, length}
use Rattle.tables.specs.Record.{is_composed, named as operands_of}
use Rattle.tables.specs.Table.{record_at, kind_at}
use Rattle.tables.specs.Accepted.{records}
use Rattle.patterns.specs.Pattern.{Pattern, name, any, literal, each, halved, Patterns, nil, cons}
use Rattle.patterns.specs.Read.{Readable}

-- Record p is a pattern with parts.
pub record Composed (table : List ℕ) (p : ℕ) : Type 0 where
  pub readable : Readable table p
  pub composed : is_composed (kind_at (records table) p) ≡ true

-- How many parts it has.
abbrev pub count_of : List ℕ → ℕ → ℕ
count_of table p = length (operands_of (record_at (records table) p))

-- How many there are inside a pattern, parts of its parts too.
unfoldable mutual
  pub inner : Pattern → ℕ
  inner (name x) = 0
  inner any = 0
  inner (literal w) = 0
  inner (each k ps) = inner_each ps
  inner (halved k p q) = suc (suc (inner p + inner q))

  pub inner_each : Patterns → ℕ
  inner_each nil = 0
  inner_each (cons p ps) = suc (inner p + inner_each ps)
