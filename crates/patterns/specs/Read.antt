-- Patterns of a table: the records that are patterns, and the pattern that each stands for.
use Rattle.std.specs.Prelude.{◌≡◌, true, List, [], ◌∷◌, ℕ, ◌-◌, get_or}
use Rattle.values.specs.Value.{set, sequence, map as mapping, tuple, boolean, integer, quote}
use Rattle.patterns.specs.Pattern.{Pattern, Patterns, nil, cons, name, any, literal, each, halved}
use Rattle.tables.specs.Record.{Record, is_pattern, boolean_of, integer_of, quote_of, name_of}
use Rattle.tables.specs.Table.{record_at, kind_at}
use Rattle.tables.specs.Sheet.{fold}
use Rattle.tables.specs.Accepted.{records, Fine}
use Rattle.tables.specs.Reading.{Here}

-- A pattern record of an accepted table with an index of its records.
pub record Readable (table : List ℕ) (p : ℕ) : Type 0 where
  pub fine : Fine (records table)
  pub here : Here table p
  pub pattern : is_pattern (kind_at (records table) p) ≡ true

unfoldable pub patterns_of : List Pattern → Patterns
patterns_of [] = nil
patterns_of (p ∷ ps) = cons p (patterns_of ps)

-- By kind, from 32, over the patterns of its parts.
abbrev pub patterns : List (Record → List Pattern → Pattern)
patterns =
    (λ r ps. name (name_of r)) ∷
    (λ r ps. any) ∷
    (λ r ps. literal (boolean (boolean_of r))) ∷
    (λ r ps. literal (integer (integer_of r))) ∷
    (λ r ps. each tuple (patterns_of ps)) ∷
    (λ r ps. each set (patterns_of ps)) ∷
    (λ r ps. halved set (get_or ps 0 any) (get_or ps 1 any)) ∷
    (λ r ps. each sequence (patterns_of ps)) ∷
    (λ r ps. halved sequence (get_or ps 0 any) (get_or ps 1 any)) ∷
    (λ r ps. each mapping (patterns_of ps)) ∷
    (λ r ps. halved mapping (get_or ps 0 any) (get_or ps 1 any)) ∷
    (λ r ps. literal (quote (quote_of r))) ∷ []

abbrev pub pattern_of : Record → List Pattern → Pattern
pattern_of r ps = get_or patterns (r.kind - 32) (λ q qs. any) r ps

unfoldable pub pattern_at : List Record → ℕ → Pattern
pattern_at rs r = fold (λ q ps. pattern_of (record_at rs q) ps) any rs r
