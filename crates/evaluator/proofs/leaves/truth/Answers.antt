use native.Mathlib.Omega.{arith}
use Rattle.evaluator.proofs.Tables.{field_one, room_here}
use Rattle.evaluator.proofs.Simple.{truth_done}
use Rattle.evaluator.proofs.leaves.truth.Goals as goal

pub field-b-requires : goal.field-b-requires
field-b-requires c = field_one c.requires.0 c.requires.1

pub put_boolean-requires : goal.put_boolean-requires
put_boolean-requires c = omega (arith, room_here c.requires.0)

pub returns : goal.returns
returns c = truth_done c.requires.0 c.requires.1 c.field-b.ensures.0 c.put_boolean.ensures
