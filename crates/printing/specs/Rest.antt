-- What is still to come of the print of a table.
use Rattle.std.specs.Prelude.{List, [], ◌++◌, cond, ℕ, length, take, drop}
use Rattle.choices.specs.Paths.{all_lists}
use Rattle.meaning.specs.Service.{tree}
use Rattle.print.specs.Print.{most_lines, lines, last_line}
use Rattle.printing.specs.declared.Progress.{Progress}

-- The lines of the lists from the k-th on, and the last line.
abbrev pub from_list : List ℕ → ℕ → List ℕ
from_list table k = lines table (drop k (take most_lines (all_lists (tree table)))) ++ last_line (length (all_lists (tree table)))

-- What is still to come: nothing after the last line.
abbrev pub to_come : List ℕ → Progress → List ℕ
to_come table p = cond p.over [] (from_list table p.lists)
