-- What the functions that write text ask and promise.
use Rattle.std.specs.Prelude.{◌≡◌, Bool, true, false, List, [], ◌∷◌, ◌++◌, ℕ, ◌+◌, ◌*◌, ◌-◌, ◌≤◌, length, Option, Some, None}
use Rattle.std.proofs.lemmas.List.Edits.{sets}
use Rattle.prelude.specs.declared.Refusal.{Refusal}
use Rattle.prelude.specs.Refusals.{number_of}
use Rattle.choices.specs.Tree.{Final, result, refuses, most_choices}
use Rattle.integers.specs.Bytes.{word as length_at}
use Rattle.values.specs.Value.{value_limit, Kind, set, sequence, map, tuple, number, Value, Items, none, more}
use Rattle.values.specs.Place.{At, ItemsAt, Holds, HoldsItems}
use Rattle.print.specs.declared.Separator.{Separator}
use Rattle.print.specs.declared.Separator.TheVariants.{Nothing, Comma, Arrow}
use Rattle.print.specs.Ascii.{ascii, comma}
use Rattle.print.specs.Text.{arrow, text, line, outcome_text}

-- ---- writing

-- There is room for the text at a place.
abbrev pub Room : List ℕ → ℕ → List ℕ → Type 0
Room out at bytes = at + length bytes ≤ length out

-- t is s with the text at a place, and all else as it was; the text ends at r.
pub record Wrote (s t : List ℕ) (at : ℕ) (bytes : List ℕ) (r : ℕ) : Type 0 where
  pub bytes_set : t ≡ sets s at bytes
  pub ends : r ≡ at + length bytes

-- ---- limits

-- No outcome's text is longer: `=` and the text of a value, which has 3 bytes less than twice its record. `outcome_short` (proofs/Lines).
abbrev pub longest_outcome : ℕ
longest_outcome = 2 * value_limit - 2

-- No line is longer: 64 entries of up to three digits, each with a comma or a space after it, an outcome's text, the line's end. `longest_line_lem` (proofs/Lines).
abbrev pub longest_line : ℕ
longest_line = 4 * most_choices + longest_outcome + 1

-- Room for the first line, the last line and the line of a refused table, whatever the numbers.
abbrev pub short_line : ℕ
short_line = 64

-- ---- values

-- A value stands at a place, and there is room for its text: 3 bytes less than twice its record's.
pub record ValueRoom (s : List ℕ) (from : ℕ) (out : List ℕ) (at : ℕ) : Type 0 where
  pub held : Holds s from
  pub room : at + 2 * length_at s from ≤ 3 + length out

abbrev pub ValueWritten : List ℕ → ℕ → List ℕ → List ℕ → ℕ → ℕ → Type 0
ValueWritten s from out out' at r = (v : Value) → At s from v → Wrote out out' at (text v) r

-- What stands before an item, and what before the one after it. In a map an arrow follows a key.
abbrev pub separator_text : Separator → List ℕ
separator_text Nothing = []
separator_text Comma = comma ∷ []
separator_text Arrow = arrow

abbrev pub following : Bool → Separator → Separator
following true Nothing = Arrow
following true Comma = Arrow
following true Arrow = Comma
following false x = Comma

-- Items as the code spells them: each after what stands before it.
unfoldable pub spelled : Bool → Separator → Items → List ℕ
spelled for_map x none = []
spelled for_map x (more v vs) = (separator_text x ++ text v) ++ spelled for_map (following for_map x) vs

pub record ItemsRoom (s : List ℕ) (from to : ℕ) (out : List ℕ) (at : ℕ) : Type 0 where
  pub held : HoldsItems s from to
  pub ordered : from ≤ to
  pub inside : to ≤ length s
  pub room : at + 2 * (to - from) ≤ length out

abbrev pub ItemsWritten : List ℕ → ℕ → ℕ → Bool → Separator → List ℕ → List ℕ → ℕ → ℕ → Type 0
ItemsWritten s from to for_map x out out' at r = (vs : Items) → ItemsAt s from to vs → Wrote out out' at (spelled for_map x vs) r

-- What a collection's text begins and ends with. An empty map's has the arrow.
abbrev pub opening : Kind → Bool → List ℕ
opening set is_empty = ascii "{"
opening sequence is_empty = ascii "["
opening map true = ascii "{|->"
opening map false = ascii "{"
opening tuple is_empty = ascii "mk_("

abbrev pub closing_bracket : Kind → List ℕ
closing_bracket set = ascii "}"
closing_bracket sequence = ascii "]"
closing_bracket map = ascii "}"
closing_bracket tuple = ascii ")"

abbrev pub Opened : ℕ → Bool → List ℕ → List ℕ → ℕ → ℕ → Type 0
Opened kind is_empty out out' at r = (k : Kind) → kind ≡ number k → Wrote out out' at (opening k is_empty) r

abbrev pub Closed : ℕ → List ℕ → List ℕ → ℕ → ℕ → Type 0
Closed kind out out' at r = (k : Kind) → kind ≡ number k → Wrote out out' at (closing_bracket k) r

-- ---- outcomes and lines

-- What evaluating answered: a value at the start of the scratch s, or a refusal.
pub data Answers (s : List ℕ) (o : Option Refusal) (answer : Final Value) : Type 0 where
  gave : o ≡ None → (v : Value) → answer ≡ result v → At s 0 v → Answers s o answer
  refused : (q : Refusal) → o ≡ Some q → (p k : ℕ) → answer ≡ refuses (number_of q) p k → Answers s o answer

pub record Answered (s : List ℕ) (o : Option Refusal) : Type 0 where
  pub answer : Final Value
  pub answers : Answers s o answer

pub record OutcomeRoom (s : List ℕ) (o : Option Refusal) (out : List ℕ) (at : ℕ) : Type 0 where
  pub answered : Answered s o
  pub room : at + longest_outcome ≤ length out

abbrev pub OutcomeWritten : List ℕ → Option Refusal → List ℕ → List ℕ → ℕ → ℕ → Type 0
OutcomeWritten s o out out' at r = (answer : Final Value) → Answers s o answer → Wrote out out' at (outcome_text answer) r

-- A line is asked for: a list of at most 64 entries, an answer, and room for the longest line.
pub record LineRoom (list : List ℕ) (o : Option Refusal) (s out : List ℕ) (at : ℕ) : Type 0 where
  pub few : length list ≤ most_choices
  pub answered : Answered s o
  pub room : at + longest_line ≤ length out

pub record LineWritten (list : List ℕ) (o : Option Refusal) (s out out' : List ℕ) (at r : ℕ) : Type 0 where
  pub right : (answer : Final Value) → Answers s o answer → Wrote out out' at (line list answer) r
  pub within : r ≤ at + longest_line
