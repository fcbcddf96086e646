-- The operators on booleans, and the equality of any two values: source 000, section 3.1.1, pages 6 and 7.
use Rattle.std.specs.Prelude.{Bool, true, false, not}
use Rattle.std.proofs.Math.Option.{Option, none as absent, some}
use Rattle.values.specs.Value.{Value, boolean}
use Rattle.values.specs.Items.{same}
use Rattle.operators.specs.Answer.{Answer, is, refused, wrong_kind, as_boolean, needs, needs_both}

-- A truth value as an answer.
abbrev pub truth : Bool → Answer
truth b = is (boolean b)

-- not b (page 7)
abbrev pub negation : Value → Answer
negation v = needs (as_boolean v) (λ b. truth (not b))

-- a <=> b (page 7): on booleans the same as =
abbrev pub biimplication : Value → Value → Answer
biimplication v w = needs_both (as_boolean v) (as_boolean w) (λ a b. truth (same (boolean a) (boolean b)))

-- a = b, a <> b (page 6): any two values
abbrev pub equality : Value → Value → Answer
equality v w = truth (same v w)

abbrev pub inequality : Value → Value → Answer
inequality v w = truth (not (same v w))

-- ---- a and b, a or b, a => b (page 7): operators 1 to 3 test the left first and evaluate the right only if the left does not settle it

pub data Connective : Type 0 where
  and or implies : Connective

-- What the left says: the answer, or that the right decides.
pub data Left : Type 0 where
  settles : Answer → Left
  leaves : Left

abbrev pub settled_by : Connective → Bool → Left
settled_by and false = settles (truth false)
settled_by and true = leaves
settled_by or false = leaves
settled_by or true = settles (truth true)
settled_by implies false = settles (truth true)
settled_by implies true = leaves

abbrev pub of_left : Connective → Option Bool → Left
of_left c absent = settles (refused wrong_kind)
of_left c (some a) = settled_by c a

abbrev pub left : Connective → Value → Left
left c v = of_left c (as_boolean v)

-- Where the right decides, it must be boolean, and its value is the answer.
abbrev pub right : Value → Answer
right w = needs (as_boolean w) (λ b. truth b)
