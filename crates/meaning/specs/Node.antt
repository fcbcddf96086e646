-- Document 01, "Table records": what a record of each expression kind says. Operands and patterns are record numbers.
use Rattle.std.specs.Prelude.{Bool, List, ℕ, ℤ}
use Rattle.values.specs.Value.{Kind}
use Rattle.operators.specs.Booleans.{Connective}

-- 14 forall, 15 exists, 16 exists1.
pub data Quantifier : Type 0 where
  forall exists exists1 : Quantifier

-- In brackets the kind. `P` is a pattern's record.
pub data Node : Type 0 where
  -- [1] boolean literal, [2] integer literal, [3] name
  truth : Bool → Node
  whole : ℤ → Node
  named : ℕ → Node
  -- [4] operator, operand; [5] operator, left, right; and, or, => apart from the others, which evaluate both
  unary_of : ℕ → ℕ → Node
  binary_of : ℕ → ℕ → ℕ → Node
  connective : Connective → ℕ → ℕ → Node
  -- [6] test, then, else
  if : ℕ → ℕ → ℕ → Node
  -- [7] set, [8] sequence, [9] map, [10] tuple: operands in written order
  enumeration : Kind → List ℕ → Node
  -- [11] from, to
  range : ℕ → ℕ → Node
  -- [12] P, value, body; [13] P, set, condition, body
  let_in : ℕ → ℕ → ℕ → Node
  let_be : ℕ → ℕ → ℕ → ℕ → Node
  -- [14] [15] [16] P, set, condition; [17] P, set, condition
  quantified : Quantifier → ℕ → ℕ → ℕ → Node
  iota : ℕ → ℕ → ℕ → Node
  -- [18] [19] P, set, condition, element; [20] P, set, condition, key, value
  set_comprehension : ℕ → ℕ → ℕ → ℕ → Node
  sequence_comprehension : ℕ → ℕ → ℕ → ℕ → Node
  map_comprehension : ℕ → ℕ → ℕ → ℕ → ℕ → Node
  -- [21] sequence or map, argument
  application : ℕ → ℕ → Node
  -- [22] quote literal
  quoted : ℕ → Node
  -- a pattern's record, which is never evaluated
  no_expression : Node
