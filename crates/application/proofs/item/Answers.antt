-- `applying::item` meets its contract.
use Rattle.application.proofs.Finding.{item_wrong, found_off, index_of, item_sought, found_done}
use Rattle.application.proofs.item.Goals as goal

pub returns-then-kind-ne-INTEGER : goal.returns-then-kind-ne-INTEGER
returns-then-kind-ne-INTEGER c = item_wrong c.kind_of-kind.ensures c.if-kind-ne-INTEGER.true

pub returns-then-i-lt1 : goal.returns-then-i-lt1
returns-then-i-lt1 c = found_off c.integer_at-i.ensures c.if-i-lt1.true

pub overflow_cast-i : goal.overflow_cast-i
overflow_cast-i c = let i = index_of c.integer_at-i.ensures c.if-i-lt1.false in (i.natural, i.fits)

pub overflow_sub-i : goal.overflow_sub-i
overflow_sub-i c = (index_of c.integer_at-i.ensures c.if-i-lt1.false).low

pub bring-requires : goal.bring-requires
bring-requires c = item_sought c.integer_at-i.ensures c.if-i-lt1.false c.item_at-found.ensures c.requires

pub returns : goal.returns
returns c = found_done c.integer_at-i.ensures c.if-i-lt1.false c.item_at-found.ensures c.bring.ensures
