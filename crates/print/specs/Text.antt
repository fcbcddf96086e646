-- Document 01, "The walk print": numbers, values, lists, outcomes and lines as text. A text is a list of bytes, in ASCII.
use Rattle.std.specs.Prelude.{Bool, true, false, cond, List, [], ◌∷◌, ◌++◌, map as each, ℕ, zero, suc, ◌-◌, ◌/◌, ◌%◌, ltb, ℤ, pos, negsuc, get_or}
use Rattle.choices.specs.Tree.{Final, result, refuses}
use Rattle.values.specs.Value.{Kind, set, sequence, map, tuple, Value, boolean, integer, quote, collection, Items, none, more}
use Rattle.print.specs.Ascii.{ascii, digit, comma, hyphen, equals, exclamation, space, newline}

-- ---- numbers

-- The decimal digits of a number below 10 ^ k, the most significant first, with no zero in front.
unfoldable pub digits_to : ℕ → ℕ → List ℕ
digits_to zero n = []
digits_to (suc k) n = cond (ltb n 10) (digit n ∷ []) (digits_to k (n / 10) ++ digit (n % 10) ∷ [])

-- Every n is below 10 ^ (n + 1).
unfoldable pub decimal : ℕ → List ℕ
decimal n = digits_to (suc n) n

abbrev pub integer_text : ℤ → List ℕ
integer_text (pos n) = decimal n
integer_text (negsuc n) = hyphen ∷ decimal (suc n)

-- ---- values

-- Texts joined by commas; those after a first.
abbrev pub continued : List (List ℕ) → List ℕ
continued [] = []
continued (t ∷ ts) = (comma ∷ t) ++ continued ts

abbrev pub comma_joined : List (List ℕ) → List ℕ
comma_joined [] = []
comma_joined (t ∷ ts) = t ++ continued ts

abbrev pub arrow : List ℕ
arrow = ascii "|->"

-- Key, value, key, value: each key with its value. (A key without a value never meets this.)
abbrev pub pair_texts : List (List ℕ) → List (List ℕ)
pair_texts [] = []
pair_texts (k ∷ []) = k ∷ []
pair_texts (k ∷ v ∷ ts) = (k ++ arrow ++ v) ∷ pair_texts ts

-- The entries of a map; the arrow alone if there are none.
abbrev pub entries_text : List (List ℕ) → List ℕ
entries_text [] = arrow
entries_text (t ∷ ts) = comma_joined (pair_texts (t ∷ ts))

abbrev pub truth_text : Bool → List ℕ
truth_text true = ascii "true"
truth_text false = ascii "false"

-- <7>: the number of a quote between angle brackets.
abbrev pub quote_text : ℕ → List ℕ
quote_text n = ascii "<" ++ decimal n ++ ascii ">"

-- {1,2}, [1,2], {1|->2} and {|->}, mk_(1,2).
abbrev pub enclosed : Kind → List (List ℕ) → List ℕ
enclosed set ts = ascii "{" ++ comma_joined ts ++ ascii "}"
enclosed sequence ts = ascii "[" ++ comma_joined ts ++ ascii "]"
enclosed map ts = ascii "{" ++ entries_text ts ++ ascii "}"
enclosed tuple ts = ascii "mk_(" ++ comma_joined ts ++ ascii ")"

unfoldable mutual
  pub text : Value → List ℕ
  text (boolean b) = truth_text b
  text (integer z) = integer_text z
  text (quote n) = quote_text n
  text (collection k vs) = enclosed k (texts vs)

  pub texts : Items → List (List ℕ)
  texts none = []
  texts (more v vs) = text v ∷ texts vs

-- ---- refusals

-- Words, a constant table, from 20 to 31.
abbrev pub words : List (List ℕ)
words =
    ascii "kind" ∷ ascii "range" ∷ ascii "zero" ∷ ascii "no-match" ∷ ascii "no-binding" ∷ ascii "not-unique"
    ∷ ascii "absent" ∷ ascii "clash" ∷ ascii "large" ∷ ascii "split" ∷ ascii "bindings" ∷ ascii "choices" ∷ []

unfoldable pub refusal_word : ℕ → List ℕ
refusal_word n = get_or words (n - 20) []

-- ---- lines

-- Entries joined by commas (`-` if none).
abbrev pub list_text : List ℕ → List ℕ
list_text [] = hyphen ∷ []
list_text (c ∷ l) = comma_joined (each decimal (c ∷ l))

-- `=` and the value, or `!`, number, space, word.
abbrev pub outcome_text : Final Value → List ℕ
outcome_text (result v) = equals ∷ text v
outcome_text (refuses n p k) = exclamation ∷ decimal n ++ space ∷ refusal_word n

-- A line a list: the list, a space, what evaluating under it answers.
abbrev pub line : List ℕ → Final Value → List ℕ
line l answer = (list_text l ++ space ∷ outcome_text answer) ++ newline ∷ []
