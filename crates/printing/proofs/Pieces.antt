-- The pieces of a print, one after the other, are the print.
use mathlib.Core.Path.{◌≡◌, sym, ap₂, ◌∙◌}
use mathlib.Core.List.{List, [], ◌∷◌, ◌++◌}
use Prim.Native.Nat.{ℕ, ◌+◌, ◌<◌}
use native.Mathlib.Omega.{arith}
use lib.ListN.{length, drop, length-append, drop_of_length-le, take-append-drop}
use lib.Seq.{drop-drop}
use Rattle.tables.specs.Check.{most_bytes}
use Rattle.print.specs.Print.{print_of}
use Rattle.print.proofs.Whole.{print_long}
use Rattle.printing.specs.Pieces.{Pieces, together}

pieces_from : (table : List ℕ) (sent : ℕ) (pieces : List (List ℕ)) → Pieces table sent pieces → together pieces ≡ drop sent (print_of table)
pieces_from table sent [] h = sym (drop_of_length-le (print_of table) {i = sent} (omega arith))
pieces_from table sent (piece ∷ pieces) h =
    ap₂ (λ (x y : List ℕ). x ++ y) (sym h.0) (pieces_from table (sent + length piece) pieces h.1 ∙ sym (drop-drop (length piece) sent (print_of table)))
    ∙ take-append-drop (length piece) (drop sent (print_of table))

-- THEOREM: pieces that follow each other from the print's start to its end are together the print.
pub pieces_print : (table : List ℕ) (pieces : List (List ℕ)) → Pieces table 0 pieces → together pieces ≡ print_of table
pieces_print table pieces h = pieces_from table 0 pieces h

-- What follows the first 2,401 bytes of a table that is too long does not matter to its print.
pub long_print : (table rest : List ℕ) → most_bytes < length table → print_of (table ++ rest) ≡ print_of table
long_print table rest h = print_long (table ++ rest) (simp length-append (omega arith)) ∙ sym (print_long table h)
