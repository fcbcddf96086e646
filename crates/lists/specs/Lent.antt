-- The choices of a run as lent bytes: how many entries there are, how many are used, whether it grows, the entries, the number of ways at each.
use Rattle.std.specs.Prelude.{List, ℕ, ◌+◌, eqb, get_or, take, drop}
use Rattle.choices.specs.State.{Choices}
use Rattle.choices.specs.Tree.{most_choices}

-- Where the entries stand, where the numbers of ways stand, and how many bytes there are.
abbrev pub entries_from : ℕ
entries_from = 3

abbrev pub ways_from : ℕ
ways_from = entries_from + most_choices

abbrev pub run_bytes : ℕ
run_bytes = ways_from + most_choices

-- What the bytes stand for.
abbrev pub lent : List ℕ → Choices
lent l =
    record {
      entries = take most_choices (drop entries_from l);
      counts = take most_choices (drop ways_from l);
      len = get_or l 0 0;
      used = get_or l 1 0;
      grow = eqb (get_or l 2 0) 1;
    }
