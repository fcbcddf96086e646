-- Document 01, "The walk print": the whole print, from a table's bytes alone. It is stated over all complete lists of the table in dictionary order
-- (`all_lists`), and over what evaluating under each answers (`runs`).
use Rattle.std.specs.Prelude.{cond, List, [], ◌∷◌, ◌++◌, ℕ, ltb, length, take}
use Rattle.choices.specs.Paths.{all_lists}
use Rattle.std.specs.Prelude.{Ok, Err}
use Rattle.tables.specs.Faults.{Checked, number_of}
use Rattle.tables.specs.Check.{check}
use Rattle.meaning.specs.Service.{tree, runs}
use Rattle.print.specs.Ascii.{ascii, newline, space}
use Rattle.print.specs.Text.{decimal, line}

-- If a list would follow the 10,000th, the print is cut there.
abbrev pub most_lines : ℕ
most_lines = 10000

-- First line: `table` and the record count.
abbrev pub first_line : ℕ → List ℕ
first_line count = ascii "table " ++ decimal count ++ newline ∷ []

-- `end` and the count; `cut 10000`.
abbrev pub end_line : ℕ → List ℕ
end_line count = ascii "end " ++ decimal count ++ newline ∷ []

abbrev pub cut_line : List ℕ
cut_line = ascii "cut " ++ decimal most_lines ++ newline ∷ []

-- `refused`, number, place, parted by single spaces.
abbrev pub refused_line : ℕ → ℕ → List ℕ
refused_line number place = ascii "refused " ++ decimal number ++ (space ∷ decimal place) ++ newline ∷ []

-- A line a list.
abbrev pub lines : List ℕ → List (List ℕ) → List ℕ
lines table [] = []
lines table (list ∷ lists) = line list (runs table list) ++ lines table lists

-- Last: `end` and the count; if a list would follow the 10,000th, `cut 10000` instead.
abbrev pub last_line : ℕ → List ℕ
last_line count = cond (ltb most_lines count) cut_line (end_line count)

-- The lines of a table's complete lists, and the last line.
abbrev pub walked : List ℕ → List (List ℕ) → List ℕ
walked table lists = lines table (take most_lines lists) ++ last_line (length lists)

-- A refused table prints only that.
abbrev pub printed : List ℕ → Checked → List ℕ
printed table (Ok count) = first_line count ++ walked table (all_lists (tree table))
printed table (Err e) = refused_line (number_of e.rule) e.place

-- The print of a table.
abbrev pub print_of : List ℕ → List ℕ
print_of table = printed table (check table)
