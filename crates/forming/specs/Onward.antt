-- The matches of an agenda, going on from what is found: pattern after pattern.
use Rattle.std.specs.Prelude.{List, [], ◌∷◌}
use Rattle.values.specs.Value.{Value}
use Rattle.patterns.specs.Binding.{Binding, nothing, with_each, together}
use Rattle.patterns.specs.Pattern.{Pattern, matches, match_each}
use Rattle.patterns.specs.Read.{patterns_of}

-- A pattern that is still to be matched, with its value.
pub record Task : Type 0 where
  pub what : Pattern
  pub value : Value

abbrev pub task : Pattern → Value → Task
task p v = record { what = p; value = v }

-- The bindings of all of them together.
unfoldable pub matches_all : List Task → List Binding
matches_all [] = nothing ∷ []
matches_all (t ∷ ts) = together (matches t.what t.value) (matches_all ts)

-- The matches of all tasks that agree with what is found, together with it.
abbrev pub onward : List Task → Binding → List Binding
onward ts b = with_each b (matches_all ts)

-- Each pattern with its value.
unfoldable pub zipped : List Pattern → List Value → List Task
zipped [] vs = []
zipped (p ∷ ps) [] = []
zipped (p ∷ ps) (v ∷ vs) = task p v ∷ zipped ps vs

-- What one way of the parts gives.
abbrev pub one_way : List Pattern → List Task → Binding → List Value → List Binding
one_way ps ts b vs = with_each b (together (match_each (patterns_of ps) vs) (matches_all ts))
