use mir.Syntax.{w32}
use mathlib.Core.Path.{sym, ◌∙◌}
use native.Mathlib.Omega.{arith}
use mir.Facts.{to_z-of_z}
use Rattle.evaluator.proofs.Tables.{field_name, room_here}
use mathlib.Core.Path.{ap}
use Rattle.std.specs.Prelude.{Err}
use Rattle.evaluator.proofs.Tables.{small_place}
use Rattle.evaluator.proofs.Coming.{as_ended}
use Rattle.evaluator.proofs.Simple.{told_nothing, told_other, told_whole, name_below, part_free, part_held, part_done, part_whole, part_number, whole_range}
use Rattle.evaluator.proofs.leaves.name.Goals as goal

pub field-x-requires : goal.field-x-requires
field-x-requires c = field_name c.requires.0 c.requires.1

pub bounds-env-x : goal.bounds-env-x
bounds-env-x c = name_below c.requires.0 c.requires.1 c.field-x.ensures.0

pub returns-then-eq : goal.returns-then-eq
returns-then-eq c =
    as_ended (ap Err c.at.ensures) (part_free c.requires.0 c.requires.1 c.field-x.ensures.0 c.unpack-part.ensures (told_nothing c.unpack-part.result.how c.eq.ensures c.if-eq.true))

pub at-requires : goal.at-requires
at-requires c = small_place c.requires.0

pub kind_of-requires : goal.kind_of-requires
kind_of-requires c =
    part_whole c.requires.0 c.requires.1 c.field-x.ensures.0 c.unpack-part.ensures (told_whole c.unpack-part.result.how c.eq-2.ensures c.if-eq-2.true)

pub integer_at-z-requires : goal.integer_at-z-requires
integer_at-z-requires c =
    record { held = part_whole c.requires.0 c.requires.1 c.field-x.ensures.0 c.unpack-part.ensures (told_whole c.unpack-part.result.how c.eq-2.ensures c.if-eq-2.true); kind = sym c.kind_of.ensures.is ∙ c.if-kind_of-eq-INTEGER.true }

pub put_integer-requires : goal.put_integer-requires
put_integer-requires c =
    (omega (arith, room_here c.requires.0), whole_range (to_z-of_z {w = w32} (record { sfits = c.integer_at-z.type_inv })) c.integer_at-z.ensures)

pub returns-then-kind_of-eq-INTEGER : goal.returns-then-kind_of-eq-INTEGER
returns-then-kind_of-eq-INTEGER c =
    part_number c.requires.0 c.requires.1 c.field-x.ensures.0 c.unpack-part.ensures (told_whole c.unpack-part.result.how c.eq-2.ensures c.if-eq-2.true) (to_z-of_z {w = w32} (record { sfits = c.integer_at-z.type_inv })) c.integer_at-z.ensures c.put_integer.ensures

pub put_part-requires : goal.put_part-requires
put_part-requires c =
    part_held c.requires.0 c.requires.1 c.field-x.ensures.0 c.unpack-part.ensures (told_other c.unpack-part.result.how c.eq.ensures c.if-eq.false)

pub returns : goal.returns
returns c =
    part_done c.requires.0 c.requires.1 c.field-x.ensures.0 c.unpack-part.ensures (told_other c.unpack-part.result.how c.eq.ensures c.if-eq.false) c.put_part.ensures
