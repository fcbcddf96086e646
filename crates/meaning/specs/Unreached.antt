-- What the definitions say where nothing can be is not reached in an accepted table: an operator without a number, an iota without its name, a
-- name that is not bound, a pattern evaluated. (The bound on the recursion is out of sight by `meaning_is` and `loose_meaning_is`.)
-- `unreached` (Laws/Unreached) proves it.
use Rattle.std.specs.Prelude.{◌≡◌, List, ℕ, ◌≤◌}
use Rattle.std.proofs.Math.Option.{some}
use Rattle.prelude.specs.Membership.{In}
use Rattle.choices.specs.Tree.{Gives}
use Rattle.choices.specs.Outcome.{refusal}
use Rattle.values.specs.Value.{Value, Items}
use Rattle.patterns.specs.Binding.{Binding}
use Rattle.patterns.specs.Pattern.{name, list_of}
use Rattle.patterns.specs.Binder.{bound, formed}
use Rattle.tables.specs.Record.{operator}
use Rattle.tables.specs.Table.{record_at}
use Rattle.tables.specs.Accepted.{records}
use Rattle.patterns.specs.Read.{pattern_at}
use Rattle.meaning.specs.State.{value_in}
use Rattle.meaning.specs.Sheet.{pattern_name}
use Rattle.meaning.specs.Service.{tree}
use Rattle.meaning.specs.Kinds.{operand_of, name_in, kind_in}

pub record Unreached (table : List ℕ) : Type 0 where
  -- Operators have the numbers of document 01. (1, 2 and 3 of the binary ones are read as connectives.)
  pub unary_known : (r : ℕ) → kind_in table r ≡ 4 → (1 ≤ operator (record_at (records table) r)) × (operator (record_at (records table) r) ≤ 15)
  pub binary_known : (r : ℕ) → kind_in table r ≡ 5 → (1 ≤ operator (record_at (records table) r)) × (operator (record_at (records table) r) ≤ 28)
  -- The pattern of an iota is a name, and every binding of it has a value for that name.
  pub iota_named : (r : ℕ) → kind_in table r ≡ 17 → pattern_at (records table) (operand_of table r 0) ≡ name (name_in table r)
  pub iota_valued : (r : ℕ) → kind_in table r ≡ 17 → (vs : Items) (bs : List Binding) → formed (pattern_at (records table) (operand_of table r 0)) (list_of vs) ≡ bound bs
      → (β : Binding) → In β bs → (v : Value) × (value_in β (pattern_name (pattern_at (records table) (operand_of table r 0))) ≡ some v)
  -- Every refusal is at a record of kind 4 to 21: a name that is read is bound, and no pattern is evaluated.
  pub refused_there : (m p : ℕ) → Gives (tree table) (refusal m p) → (4 ≤ kind_in table p) × (kind_in table p ≤ 21)
