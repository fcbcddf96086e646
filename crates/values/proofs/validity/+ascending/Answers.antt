-- `ascending` meets its contract. The measure is the number of bytes left.
use mathlib.Core.Path.{sym, ◌∙◌}
use native.Mathlib.Omega.{arith}
use Rattle.values.proofs.Records.{first_held}
use Rattle.values.proofs.Ordering.{rest_items}
use Rattle.values.proofs.Shapes.{rest_inside, ascending-none, ascending_one, ascending_on, ascending_off, lower_is, not_lower}
use Rattle.values.proofs.validity.+ascending.Goals as goal

pub returns-then-from-to : goal.returns-then-from-to
returns-then-from-to t c = ascending-none c.if-from-to.true

pub length_of-requires : goal.length_of-requires
length_of-requires t c = first_held c.if-from-to.false c.requires

pub overflow_add-next : goal.overflow_add-next
overflow_add-next t c =
    let h = c.requires.1.fits in let i = rest_inside c.if-from-to.false c.length_of.ensures c.requires in omega arith

pub returns-then-next-to : goal.returns-then-next-to
returns-then-next-to t c = ascending_one c.if-from-to.false c.length_of.ensures c.if-next-to.true

pub compare-requires : goal.compare-requires
compare-requires t c =
    (first_held c.if-from-to.false c.requires, first_held c.if-next-to.false (rest_items c.if-from-to.false c.length_of.ensures c.requires))

pub ascending-requires : goal.ascending-requires
ascending-requires t c =
    let i = rest_inside c.if-from-to.false c.length_of.ensures c.requires in let l = c.length_of.ensures.low in (omega arith, rest_items c.if-from-to.false c.length_of.ensures c.requires)

pub returns-then-is_lt : goal.returns-then-is_lt
returns-then-is_lt t c =
    ascending_on c.if-from-to.false c.length_of.ensures c.if-next-to.false c.compare.ensures (lower_is (sym c.is_lt.ensures ∙ c.if-is_lt.true)) c.ascending.ensures

pub returns-else-is_lt : goal.returns-else-is_lt
returns-else-is_lt t c =
    rw c.if-is_lt.false (ascending_off c.if-from-to.false c.length_of.ensures c.if-next-to.false c.compare.ensures (not_lower (sym c.is_lt.ensures ∙ c.if-is_lt.false)))
