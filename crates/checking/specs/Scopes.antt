-- What lies below and around a record, as bits of one number: bit 0 a condition, bit 1 a loose pattern, bit n + 2 the name n.
use Rattle.std.specs.Prelude.{◌≡◌, Bool, cond, List, [], ◌∷◌, ℕ, ◌+◌, ◌/◌, ◌%◌, ◌^◌, ◌<◌, ◌≤◌, eqb, length, get_or}
use Rattle.std.specs.Int.Bits.{bit_or}
use Rattle.tables.specs.declared.Role.{Role}
use Rattle.tables.specs.declared.Role.TheVariants.{Plain, Condition, Body, Pattern, Name}
use Rattle.tables.specs.Record.{Record, name_of}
use Rattle.tables.specs.Table.{record_at}
use Rattle.tables.specs.Sheet.{fold, is_loose, parent, pattern_of, climb}
use Rattle.tables.specs.Check.{most_records}
use Rattle.tables.specs.Accepted.{records}
use Rattle.tables.specs.Check.{Clear6}
use Rattle.checking.specs.Naming.{Listed, ListedOperand, WholeTable}

-- Bit n of a number is set; the bits of either of two.
unfoldable pub has_bit : ℕ → ℕ → Bool
has_bit m n = eqb (m / 2 ^ n % 2) 1

unfoldable pub or_bits : ℕ → ℕ → ℕ
or_bits a b = bit_or a b

abbrev pub or_bits_all : ℕ → List ℕ → ℕ
or_bits_all m [] = m
or_bits_all m (x ∷ xs) = or_bits_all (or_bits m x) xs

-- ---- below a record

-- The bits of one record: the name of a pattern, or that it is loose.
unfoldable pub own : Record → ℕ
own x = cond (eqb x.kind 32) (2 ^ (name_of x + 2)) (cond (is_loose x) 2 0)

unfoldable pub bits_below : List Record → ℕ → ℕ
bits_below rs r = fold (λ q ms. or_bits_all (own (record_at rs q)) ms) 0 rs r

-- ---- around a record

-- What a record adds around an operand of a role: its pattern's bits where its names cover it, and that it is a condition.
abbrev pub given : List Record → ℕ → Role → ℕ
given rs q Plain = 0
given rs q Condition = or_bits (bits_below rs (pattern_of rs q)) 1
given rs q Body = bits_below rs (pattern_of rs q)
given rs q Pattern = 0
given rs q Name = 0

unfoldable pub around : List Record → ℕ → ℕ
around rs r = climb (λ q role up. or_bits up (given rs q role)) 0 rs r

-- ---- the passes

-- What f says of each record lower than r stands in the list.
pub record Filled (f : ℕ → ℕ) (xs : List ℕ) (r : ℕ) : Type 0 where
  pub long : length xs ≡ most_records
  pub is : (q : ℕ) → q < r → get_or xs q 0 ≡ f q

-- The bits below each record lower than r.
abbrev pub Below : List Record → List ℕ → ℕ → Type 0
Below rs bits r = Filled (bits_below rs) bits r

-- The bits around each record that one from q on names, or none.
pub record Around (rs : List Record) (bits : List ℕ) (q : ℕ) : Type 0 where
  pub long : length bits ≡ most_records
  pub is : (r : ℕ) → r < length rs → q ≤ parent rs r → get_or bits r 0 ≡ around rs r

pub record AskBelow (table : List ℕ) (r : ℕ) (bits : List ℕ) : Type 0 where
  pub here : Listed table r
  pub clear : Clear6 (records table)
  pub below : Below (records table) bits r

-- A whole table that keeps rule 6.
pub record KeepsRule6 (table : List ℕ) (count : ℕ) : Type 0 where
  pub whole : WholeTable table count
  pub clear : Clear6 (records table)

pub record AskGiven (table : List ℕ) (q i : ℕ) (bits : List ℕ) : Type 0 where
  pub operand : ListedOperand table q i
  pub clear : Clear6 (records table)
  pub below : Below (records table) bits (length (records table))

pub record AskPush (table : List ℕ) (q : ℕ) (inner outer : List ℕ) : Type 0 where
  pub here : Listed table q
  pub clear : Clear6 (records table)
  pub below : Below (records table) inner (length (records table))
  pub around : Around (records table) outer (q + 1)

pub record AskAround (table : List ℕ) (count : ℕ) (inner outer : List ℕ) : Type 0 where
  pub kept : KeepsRule6 table count
  pub below : Below (records table) inner (length (records table))
  pub around : Around (records table) outer (length (records table))

pub record AskScoped (table : List ℕ) (count : ℕ) (inner outer : List ℕ) : Type 0 where
  pub kept : KeepsRule6 table count
  pub below : Below (records table) inner (length (records table))
  pub around : Around (records table) outer 0

pub record AskName (table : List ℕ) (r : ℕ) (outer : List ℕ) : Type 0 where
  pub here : Listed table r
  pub around : Around (records table) outer 0

pub record AskChoice (table : List ℕ) (r : ℕ) (inner outer : List ℕ) : Type 0 where
  pub here : Listed table r
  pub clear : Clear6 (records table)
  pub below : Below (records table) inner (length (records table))
  pub around : Around (records table) outer 0
