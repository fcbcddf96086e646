-- `copy_value` meets its contract. Copying its bytes copies the record, and an integer's are those of its number.
use mir.Syntax.{w32}
use mir.Facts.{to_z-of_z}
use Rattle.values.proofs.Copying.{movable, apart_as, copied, number_room, number_copied}
use Rattle.values.proofs.copy_value.Goals as goal

pub put_integer-requires : goal.put_integer-requires
put_integer-requires c =
    number_room (to_z-of_z {w = w32} (record { sfits = c.integer_at-z.type_inv })) c.integer_at-z.ensures c.requires

pub returns-then-kind_of-eq-INTEGER : goal.returns-then-kind_of-eq-INTEGER
returns-then-kind_of-eq-INTEGER c =
    number_copied (to_z-of_z {w = w32} (record { sfits = c.integer_at-z.type_inv })) c.integer_at-z.ensures c.put_integer.ensures

pub copy_apart-requires : goal.copy_apart-requires
copy_apart-requires c = (movable c.requires c.length_of-n.ensures, apart_as c.requires c.length_of-n.ensures)

pub returns : goal.returns
returns c = copied c.requires c.length_of-n.ensures c.copy_apart.ensures
