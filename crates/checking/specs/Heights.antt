-- Rule 9: what is asked of a record's height, heights noted from the first record on, and leaves at the start.
use Rattle.std.specs.Prelude.{◌≡◌, true, List, ℕ, suc, ◌≤◌, ◌<◌, leb, length, Option, Some, None}
use Rattle.tables.specs.Record.{Record, is_leaf, named}
use Rattle.tables.specs.Shapes.{first_of}
use Rattle.tables.specs.Table.{record_at, kind_at}
use Rattle.tables.specs.Sheet.{height}
use Rattle.tables.specs.Accepted.{records}
use Rattle.tables.specs.Check.{Clear6}
use Rattle.checking.specs.Scopes.{Filled}
use Rattle.checking.specs.Naming.{Listed}

-- Whether a record is at most so high, in a table that keeps rule 6.
pub record AskLow (table : List ℕ) (r most : ℕ) : Type 0 where
  pub here : Listed table r
  pub clear : Clear6 (records table)
  pub room : 0 < most

-- A record whose operands, 0 to last, begin at byte first, and how high they may be.
pub record AskLast (table : List ℕ) (r first last most : ℕ) : Type 0 where
  pub low : AskLow table r most
  pub begin : first ≡ first_of (kind_at (records table) r)
  pub all : suc last ≡ length (named (record_at (records table) r))

-- All depends on the last operand, n, where the others of record r are low enough.
pub record Hangs (rs : List Record) (r most n : ℕ) : Type 0 where
  pub lower : n < r
  pub low : leb (height rs r) (suc most) ≡ leb (height rs n) most

-- The last operand, where the others are low enough; else record r is too high.
abbrev pub LastLow : List Record → ℕ → ℕ → Option ℕ → Type 0
LastLow rs r most None = suc most < height rs r
LastLow rs r most (Some n) = Hangs rs r most n

-- The height of a record, where those of all lower ones stand in a list.
pub record AskHighest (table : List ℕ) (r : ℕ) (heights : List ℕ) : Type 0 where
  pub here : Listed table r
  pub clear : Clear6 (records table)
  pub noted : Filled (height (records table)) heights r

-- The first n of so many records are leaves.
pub record LeafFirst (rs : List Record) (count n : ℕ) : Type 0 where
  pub within : n ≤ count
  pub leaf : (r : ℕ) → r < n → is_leaf (kind_at rs r) ≡ true
