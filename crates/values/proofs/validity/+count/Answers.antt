-- `count` meets its contract. The measure is the number of bytes left.
use native.Mathlib.Omega.{arith}
use Rattle.values.proofs.Records.{first_held}
use Rattle.values.proofs.Ordering.{rest_items}
use Rattle.values.proofs.Shapes.{rest_inside, count_none, count_more, items_few}
use Rattle.values.proofs.validity.+count.Goals as goal

pub returns-then-from-to : goal.returns-then-from-to
returns-then-from-to t c = count_none c.if-from-to.true

pub length_of-requires : goal.length_of-requires
length_of-requires t c = first_held c.if-from-to.false c.requires

pub overflow_add-next : goal.overflow_add-next
overflow_add-next t c =
    let h = c.requires.1.fits in let i = rest_inside c.if-from-to.false c.length_of.ensures c.requires in omega arith

pub count-requires : goal.count-requires
count-requires t c =
    let i = rest_inside c.if-from-to.false c.length_of.ensures c.requires in let l = c.length_of.ensures.low in (omega arith, rest_items c.if-from-to.false c.length_of.ensures c.requires)

pub overflow_add-result : goal.overflow_add-result
overflow_add-result t c =
    let h = items_few (rest_items c.if-from-to.false c.length_of.ensures c.requires) c.count.ensures in omega arith

pub returns : goal.returns
returns t c = count_more c.if-from-to.false c.length_of.ensures c.count.ensures
