-- The print of a table in pieces that follow each other.
use Rattle.std.specs.Prelude.{◌≡◌, List, [], ◌∷◌, ◌++◌, ℕ, ◌+◌, length, take, drop}
use Rattle.print.specs.Print.{print_of}

-- The piece is the print's bytes from the place `sent` on.
abbrev pub Piece : List ℕ → ℕ → List ℕ → Type 0
Piece table sent piece = take (length piece) (drop sent (print_of table)) ≡ piece

-- Pieces from the place `sent` on: each begins where the one before it ended, and the last ends where the print does.
abbrev pub Pieces : List ℕ → ℕ → List (List ℕ) → Type 0
Pieces table sent [] = sent ≡ length (print_of table)
Pieces table sent (piece ∷ pieces) = Piece table sent piece × Pieces table (sent + length piece) pieces

-- Pieces one after the other.
abbrev pub together : List (List ℕ) → List ℕ
together [] = []
together (piece ∷ pieces) = piece ++ together pieces
