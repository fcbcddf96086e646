-- `entries` meets its contract. The measure is the number of bytes left.
use mathlib.Core.Path.{sym, ◌∙◌}
use native.Mathlib.Omega.{arith}
use Rattle.values.proofs.Records.{first_held}
use Rattle.values.proofs.Ordering.{rest_items}
use Rattle.values.proofs.Shapes.{rest_inside, entries_none, entries_half, entries_one, entries_on, entries_off, lower_is, not_lower}
use Rattle.values.proofs.validity.+entries.Goals as goal

pub returns-then-from-to : goal.returns-then-from-to
returns-then-from-to t c = entries_none c.if-from-to.true

pub length_of-requires : goal.length_of-requires
length_of-requires t c = first_held c.if-from-to.false c.requires

pub overflow_add-value : goal.overflow_add-value
overflow_add-value t c =
    let h = c.requires.1.fits in let i = rest_inside c.if-from-to.false c.length_of.ensures c.requires in omega arith

pub returns-then-value-to : goal.returns-then-value-to
returns-then-value-to t c = entries_half c.if-from-to.false c.length_of.ensures c.if-value-to.true

pub length_of-requires-2 : goal.length_of-requires-2
length_of-requires-2 t c = first_held c.if-value-to.false (rest_items c.if-from-to.false c.length_of.ensures c.requires)

pub overflow_add-next : goal.overflow_add-next
overflow_add-next t c =
    let h = c.requires.1.fits in let i = rest_inside c.if-value-to.false c.length_of-2.ensures (rest_items c.if-from-to.false c.length_of.ensures c.requires) in omega arith

pub returns-then-next-to : goal.returns-then-next-to
returns-then-next-to t c =
    entries_one c.if-from-to.false c.length_of.ensures c.if-value-to.false c.length_of-2.ensures c.if-next-to.true

pub compare-requires : goal.compare-requires
compare-requires t c =
    (first_held c.if-from-to.false c.requires, first_held c.if-next-to.false (rest_items c.if-value-to.false c.length_of-2.ensures (rest_items c.if-from-to.false c.length_of.ensures c.requires)))

pub entries-requires : goal.entries-requires
entries-requires t c =
    let h = rest_items c.if-from-to.false c.length_of.ensures c.requires in let i = rest_inside c.if-value-to.false c.length_of-2.ensures h in let l = c.length_of.ensures.low in (omega arith, rest_items c.if-value-to.false c.length_of-2.ensures h)

pub returns-then-is_lt : goal.returns-then-is_lt
returns-then-is_lt t c =
    entries_on c.if-from-to.false c.length_of.ensures c.if-value-to.false c.length_of-2.ensures c.if-next-to.false c.compare.ensures (lower_is (sym c.is_lt.ensures ∙ c.if-is_lt.true)) c.entries.ensures

pub returns-else-is_lt : goal.returns-else-is_lt
returns-else-is_lt t c =
    rw c.if-is_lt.false (entries_off c.if-from-to.false c.length_of.ensures c.if-value-to.false c.length_of-2.ensures c.if-next-to.false c.compare.ensures (not_lower (sym c.is_lt.ensures ∙ c.if-is_lt.false)))
