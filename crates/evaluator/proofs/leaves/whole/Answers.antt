use mir.Syntax.{w32}
use mathlib.Core.Path.{sym, subst, ◌∙◌}
use native.Mathlib.Omega.{arith}
use mir.Facts.{to_z-of_z}
use Rattle.integers.specs.Whole.{InRange}
use Rattle.evaluator.proofs.Tables.{field_four, integer_number, room_here}
use Rattle.evaluator.proofs.Simple.{whole_done}
use Rattle.evaluator.proofs.leaves.whole.Goals as goal

pub integer-z-requires : goal.integer-z-requires
integer-z-requires c = field_four c.requires.0 c.requires.1

pub put_integer-requires : goal.put_integer-requires
put_integer-requires c =
    (omega (arith, room_here c.requires.0), subst InRange (sym (to_z-of_z {w = w32} (record { sfits = c.integer-z.type_inv }) ∙ c.integer-z.ensures)) (integer_number c.requires.0 c.requires.1))

pub returns : goal.returns
returns c =
    whole_done c.requires.0 c.requires.1 (to_z-of_z {w = w32} (record { sfits = c.integer-z.type_inv }) ∙ c.integer-z.ensures) c.put_integer.ensures
