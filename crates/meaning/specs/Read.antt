-- A table as the meaning reads it: the node of each expression record, and the pattern of each pattern record (`ways`).
use Rattle.std.specs.Prelude.{List, [], ◌∷◌, ℕ, eqb, length, get_or, cond}
use Rattle.values.specs.Value.{set, sequence, map, tuple}
use Rattle.operators.specs.Booleans.{and, or, implies}
use Rattle.tables.specs.Record.{Record, boolean_of, integer_of, quote_of, name_of, operator, operand, named as operands_of}
use Rattle.tables.specs.Table.{cut, record_at}
use Rattle.patterns.specs.Read.{pattern_at}
use Rattle.meaning.specs.Node.{Node, forall, exists, exists1, truth, whole, named, unary_of, binary_of, connective, if, enumeration, range, let_in, let_be, quantified, iota, set_comprehension, sequence_comprehension, map_comprehension, application, quoted, no_expression}
use Rattle.meaning.specs.Sheet.{Sheet}

-- ---- expressions

-- 1 and, 2 or, 3 => may not evaluate their right; the others evaluate both.
abbrev pub binary_node : ℕ → ℕ → ℕ → Node
binary_node op a b =
    cond (eqb op 1) (connective and a b) (cond (eqb op 2) (connective or a b) (cond (eqb op 3) (connective implies a b) (binary_of op a b)))

abbrev pub none : Record → Node
none r = no_expression

-- By kind, from 0.
abbrev pub nodes : List (Record → Node)
nodes =
    none ∷
    (λ r. truth (boolean_of r)) ∷
    (λ r. whole (integer_of r)) ∷
    (λ r. named (name_of r)) ∷
    (λ r. unary_of (operator r) (operand r 0)) ∷
    (λ r. binary_node (operator r) (operand r 0) (operand r 1)) ∷
    (λ r. if (operand r 0) (operand r 1) (operand r 2)) ∷
    (λ r. enumeration set (operands_of r)) ∷
    (λ r. enumeration sequence (operands_of r)) ∷
    (λ r. enumeration map (operands_of r)) ∷
    (λ r. enumeration tuple (operands_of r)) ∷
    (λ r. range (operand r 0) (operand r 1)) ∷
    (λ r. let_in (operand r 0) (operand r 1) (operand r 2)) ∷
    (λ r. let_be (operand r 0) (operand r 1) (operand r 2) (operand r 3)) ∷
    (λ r. quantified forall (operand r 0) (operand r 1) (operand r 2)) ∷
    (λ r. quantified exists (operand r 0) (operand r 1) (operand r 2)) ∷
    (λ r. quantified exists1 (operand r 0) (operand r 1) (operand r 2)) ∷
    (λ r. iota (operand r 0) (operand r 1) (operand r 2)) ∷
    (λ r. set_comprehension (operand r 0) (operand r 1) (operand r 2) (operand r 3)) ∷
    (λ r. sequence_comprehension (operand r 0) (operand r 1) (operand r 2) (operand r 3)) ∷
    (λ r. map_comprehension (operand r 0) (operand r 1) (operand r 2) (operand r 3) (operand r 4)) ∷
    (λ r. application (operand r 0) (operand r 1)) ∷
    (λ r. quoted (quote_of r)) ∷ []

unfoldable pub node_of : Record → Node
node_of r = get_or nodes r.kind none r

-- ---- the sheet

abbrev sheet_of : List Record → Sheet
sheet_of rs = record { node = λ r. node_of (record_at rs r); pattern = λ r. pattern_at rs r; size = length rs }

-- The sheet of a table.
abbrev pub sheet : List ℕ → Sheet
sheet table = sheet_of (cut table).records
