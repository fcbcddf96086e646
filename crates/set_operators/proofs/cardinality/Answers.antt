-- `set_operators::cardinality` meets its contract.
use native.Mathlib.Omega.{arith}
use Rattle.set_operators.proofs.Gathers.{card_off, card_room, card_fits, card-range, card_done}
use Rattle.set_operators.proofs.cardinality.Goals as goal

pub returns-then-not-is_of_kind : goal.returns-then-not-is_of_kind
returns-then-not-is_of_kind c = card_off c.is_of_kind.ensures c.if-not-is_of_kind.true

pub count_of-n-requires : goal.count_of-n-requires
count_of-n-requires c = card_room c.is_of_kind.ensures c.if-not-is_of_kind.false

pub overflow_cast-n : goal.overflow_cast-n
overflow_cast-n c = card_fits c.is_of_kind.ensures c.if-not-is_of_kind.false c.count_of-n.ensures

pub put_integer-requires : goal.put_integer-requires
put_integer-requires c = (omega arith, card-range c.is_of_kind.ensures c.if-not-is_of_kind.false c.count_of-n.ensures)

pub returns : goal.returns
returns c = card_done c.is_of_kind.ensures c.if-not-is_of_kind.false c.count_of-n.ensures c.put_integer.ensures
