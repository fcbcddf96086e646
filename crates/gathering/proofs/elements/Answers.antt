-- `elements` meets its contract: all items go into an empty set, which fits.
use mathlib.Core.Path.{ap}
use Rattle.std.specs.Prelude.{is_ok}
use Rattle.values.proofs.Records.{holds}
use Rattle.gathering.proofs.Gathered.{elements_room, elements_fit, elements_copy, elements_done}
use Rattle.gathering.proofs.elements.Goals as goal

pub length_of-requires : goal.length_of-requires
length_of-requires c = holds c.requires.held.here

pub insert_all-requires : goal.insert_all-requires
insert_all-requires c = elements_room c.requires c.length_of.ensures.is c.put_empty.ensures

pub unwrap-requires : goal.unwrap-requires
unwrap-requires c = ap is_ok (elements_fit c.requires c.length_of.ensures.is c.put_empty.ensures c.insert_all.ensures)

pub copy_value-requires : goal.copy_value-requires
copy_value-requires c = elements_copy c.requires c.length_of.ensures.is c.put_empty.ensures c.insert_all.ensures

pub returns : goal.returns
returns c =
    elements_done c.requires c.length_of.ensures.is c.put_empty.ensures c.insert_all.ensures c.copy_value.ensures
