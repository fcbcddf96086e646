-- What is promised of the print that goes out: of the bytes that a write is given, of what the program makes of its answer, and of the bytes that arrive
-- where a contract can name them. Of standard output it cannot: std's contract of a write there says nothing of those.
use Rattle.std.specs.Prelude.{◌≡◌, List, Option, ℕ, ◌+◌, ◌≤◌, length, Ok, Err}
use Rattle.std.specs.Io.KnownBytes.{Appends}
use Rattle.print.specs.Print.{print_of}
use Rattle.printing.specs.Pieces.{Piece}
use Rattle.printing.specs.Contract.{most_sent}
use Rattle.std.specs.declared.result.Result.{Result}
use Rattle.walk.specs.declared.Failure.{Failure}

-- The piece is what comes next of the print, when `sent` bytes of it are out.
pub record Next (table : List ℕ) (sent : ℕ) (piece : List ℕ) : Type 0 where
  pub piece_is : Piece table sent piece
  pub counted : sent + length piece ≤ most_sent

-- The piece's bytes count as out, unless its write failed. Whether it did is free.
abbrev pub HandedOn : ℕ → List ℕ → Result ℕ Failure → Type 0
HandedOn sent piece (Ok n) = n ≡ sent + length piece
HandedOn sent piece (Err f) = f.sent ≡ sent

-- The whole print went out, or a write failed after some bytes of it.
abbrev pub Printed : List ℕ → Result ℕ Failure → Type 0
Printed table (Ok n) = n ≡ length (print_of table)
Printed table (Err f) = f.sent ≤ length (print_of table)

-- Where it is known what the output holds, and no write failed: it grew by the text.
abbrev pub Arrived : Option (List ℕ) → Option (List ℕ) → List ℕ → Result ℕ Failure → Type 0
Arrived before after text (Ok n) = Appends before after text
Arrived before after text (Err f) = Unit {0}
