-- Document 01's limits of a table: "1 to 2,400 bytes, at most 200 records", "height over 32" (rule 9).
use Rattle.std.specs.Prelude.{ℕ}

-- The greatest number of bytes of a table, and of records in it; the greatest height.
abbrev pub most_bytes : ℕ
most_bytes = 2400

abbrev pub most_records : ℕ
most_records = 200

abbrev pub most_height : ℕ
most_height = 32
