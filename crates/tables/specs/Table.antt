-- Document 01, "Table records" and rule 4: cutting a table into records.
use Rattle.std.specs.Prelude.{Bool, true, false, ◌||◌, cond, List, [], ◌∷◌, ℕ, zero, suc, ◌-◌, eqb, ltb, length, get_or, take, drop}
use Rattle.integers.specs.Bytes.{word}
use Rattle.tables.specs.Record.{Record, is_fit}

-- The record at the start of some bytes: length of the whole record, kind, then one-byte fields.
abbrev pub first_record : List ℕ → Record
first_record bytes = record { kind = word bytes 2; fields = take (word bytes 0 - 4) (drop 4 bytes) }

-- What stands at the start of the bytes that are left: nothing more, a fault of rule 4, or a record with what follows it.
pub data Next : Type 0 where
  end fault : Next
  one : Record → List ℕ → Next

-- Rule 4: fewer than 4 bytes left for a record; a length under 4, past the end or unfit for the kind; unknown kind, operator, name or literal.
unfoldable pub next : List ℕ → Next
next bytes =
    cond (eqb (length bytes) 0) end
    (cond (ltb (length bytes) 4 || ltb (word bytes 0) 4 || ltb (length bytes) (word bytes 0)) fault
    (cond (is_fit (first_record bytes)) (one (first_record bytes) (drop (word bytes 0) bytes)) fault))

-- The records up to the first fault of rule 4, and whether there is none.
pub record Cut : Type 0 where
  pub records : List Record
  pub whole : Bool

abbrev pub put : Record → Cut → Cut
put r c = record { records = r ∷ c.records; whole = c.whole }

abbrev pub on_next : Next → (List ℕ → Cut) → Cut
on_next end more = record { records = []; whole = true }
on_next fault more = record { records = []; whole = false }
on_next (one r rest) more = put r (more rest)

-- By recursion on a bound above the number of records.
unfoldable pub cut_by : ℕ → List ℕ → Cut
cut_by zero bytes = record { records = []; whole = true }
cut_by (suc bound) bytes = on_next (next bytes) (λ rest. cut_by bound rest)

unfoldable pub cut : List ℕ → Cut
cut table = cut_by (length table) table

-- ---- records by number

-- What stands for a record that is not there.
abbrev pub no_record : Record
no_record = record { kind = 0; fields = [] }

-- Record r of a table.
abbrev pub record_at : List Record → ℕ → Record
record_at rs r = get_or rs r no_record

abbrev pub kind_at : List Record → ℕ → ℕ
kind_at rs r = (record_at rs r).kind
