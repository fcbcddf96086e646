-- What writing the print piece by piece asks and promises.
use Rattle.std.specs.Prelude.{◌≡◌, Bool, true, false, ◌&&◌, cond, List, [], ◌++◌, ℕ, ◌+◌, ◌*◌, ◌≤◌, ◌<◌, ltb, length, take, drop, Option, Some, None, Ok, Err}
use Rattle.meaning.specs.Service.{tree}
use Rattle.lists.specs.Lent.{lent}
use Rattle.prelude.specs.declared.Refusal.{Refusal}
use Rattle.prelude.specs.Refusals.{number_of}
use Rattle.evaluator.specs.Contract.{Ended}
use Rattle.walks.specs.Steps.{Walkable}
use Rattle.print.specs.Print.{most_lines, first_line, end_line, cut_line, print_of}
use Rattle.print.specs.Contract.{longest_line, short_line}
use Rattle.printing.specs.declared.Progress.{Progress}
use Rattle.printing.specs.Due.{Behind}
use Rattle.printing.specs.Rest.{from_list, to_come}

-- The refusal of an outcome, if it is one.
abbrev pub refusal_of : Ended → Option Refusal
refusal_of (Ok u) = None
refusal_of (Err e) = Some e.refusal

-- No line tells another refusal than 20 to 31, which have words.
abbrev pub Worded : Option Refusal → Type 0
Worded None = Unit {0}
Worded (Some q) = (20 ≤ number_of q) × (number_of q ≤ 31)

-- A line of a list comes next: there is a list more, and the limit is not reached.
abbrev pub due : Progress → Bool
due p = p.more && ltb p.lists most_lines

-- The first line is at the start of the buffer, whose other bytes are as they were; no list is printed yet.
pub record Begun (count : ℕ) (out out₀ : List ℕ) (p : Progress) : Type 0 where
  pub none_yet : p.lists ≡ 0
  pub more : p.more ≡ true
  pub going : p.over ≡ false
  pub text : take p.at out ≡ first_line count
  pub beyond : drop p.at out ≡ drop p.at out₀
  pub short : p.at ≤ short_line

-- Where the print of an accepted table stands: so many lists are printed, and the choices are advanced to the next.
pub record Stands (table : List ℕ) (count : ℕ) (s run : List ℕ) (p : Progress) : Type 0 where
  pub walkable : Walkable table count s
  pub behind : Behind (tree table) p.lists p.more (lent run)
  pub few : p.lists ≤ most_lines

-- The print goes on; the buffer has the piece so far, and room for a line.
pub record Ready (table : List ℕ) (count : ℕ) (s run out : List ℕ) (p : Progress) : Type 0 where
  pub stands : Stands table count s run p
  pub going : p.over ≡ false
  pub room : p.at + longest_line ≤ length out

-- The piece grew from p to q by what came next: the piece and what is still to come are together what they were. After the piece's end the
-- buffer is as it was. What the scratch holds is free.
pub record Grew (table : List ℕ) (count : ℕ) (s run out out₀ : List ℕ) (p q : Progress) : Type 0 where
  pub stands : Stands table count s run q
  pub inside : q.at ≤ length out
  pub text : take q.at out ++ to_come table q ≡ take p.at out₀ ++ from_list table p.lists
  pub longer : p.at ≤ q.at
  pub beyond : drop q.at out ≡ drop q.at out₀

-- A line of a list was written, of at most the longest line's length.
pub record Lined (table : List ℕ) (count : ℕ) (s run out out₀ : List ℕ) (p q : Progress) : Type 0 where
  pub grew : Grew table count s run out out₀ p q
  pub next : q.lists ≡ p.lists + 1
  pub going : q.over ≡ false
  pub short : q.at ≤ p.at + longest_line

-- The last line, by what is known where no list's line comes next.
abbrev pub closing : Progress → List ℕ
closing p = cond p.more cut_line (end_line p.lists)

-- The last line was written, or there was no room for it and nothing was. After the piece's end the buffer is as it was.
pub record Closed (out out₀ : List ℕ) (p q : Progress) : Type 0 where
  pub same_lists : q.lists ≡ p.lists
  pub same_more : q.more ≡ p.more
  pub inside : q.at ≤ length out
  pub full : q.over ≡ false → length out < p.at + short_line
  pub text : take q.at out ++ cond q.over [] (closing p) ≡ take p.at out₀ ++ closing p
  pub longer : p.at ≤ q.at
  pub beyond : drop q.at out ≡ drop q.at out₀

-- As many lines as fit were written: the last line among them, or at least one list's.
pub record Filled (table : List ℕ) (count : ℕ) (s run out out₀ : List ℕ) (p q : Progress) : Type 0 where
  pub grew : Grew table count s run out out₀ p q
  pub further : q.over ≡ false → p.lists < q.lists

-- ---- piece after piece

-- The most bytes of a piece: the walk program's buffer.
abbrev pub most_piece : ℕ
most_piece = 65536

-- The most bytes of all pieces of a print: each piece but the last has at least one list's line.
abbrev pub most_sent : ℕ
most_sent = most_piece * (most_lines + 1)

-- A piece is to be written when `sent` bytes of the print are out: what the print has from there on is what the buffer holds, and then what is to come.
pub record Printing (table : List ℕ) (count : ℕ) (s run out : List ℕ) (sent : ℕ) (p : Progress) : Type 0 where
  pub ready : Ready table count s run out p
  pub text : drop sent (print_of table) ≡ take p.at out ++ from_list table p.lists
  pub within : sent ≤ length (print_of table)
  pub small : length out ≤ most_piece
  pub counted : sent ≤ most_piece * p.lists
