-- The proof of the cycle of calls {valid, valid_items}. The measures are twice the bytes from the place on, and one more for the items.
use mathlib.Core.Path.{sym, ◌∙◌}
use native.Mathlib.Omega.{arith}
use Rattle.values.proofs.Telling.{tells_false}
use Rattle.values.proofs.Found.{ends_there, integer_told, quote_told, collection_told, items_missing, items_end, items_told, items_first}
use Rattle.values.proofs.validity.+valid_valid_items.Goals as goal

pub valid-overflow_sub-to : goal.valid-overflow_sub-to
valid-overflow_sub-to t c = omega arith

pub valid-returns-then-to-at-lt-HEAD : goal.valid-returns-then-to-at-lt-HEAD
valid-returns-then-to-at-lt-HEAD t c = tells_false (λ x. omega (arith, x.held.low, x.ends))

pub valid-read16-n-requires : goal.valid-read16-n-requires
valid-read16-n-requires t c = omega arith

pub valid-returns-then-n-lt-HEAD : goal.valid-returns-then-n-lt-HEAD
valid-returns-then-n-lt-HEAD t c = let e = c.read16-n.ensures.is in tells_false (λ x. omega (arith, x.held.low, x.ends))

pub valid-overflow_sub-to-2 : goal.valid-overflow_sub-to-2
valid-overflow_sub-to-2 t c = omega arith

pub valid-returns-then-to-at : goal.valid-returns-then-to-at
valid-returns-then-to-at t c = let e = c.read16-n.ensures.is in tells_false (λ x. omega (arith, x.held.low, x.ends))

pub valid-overflow_add-at : goal.valid-overflow_add-at
valid-overflow_add-at t c = omega arith

pub valid-read16-kind-requires : goal.valid-read16-kind-requires
valid-read16-kind-requires t c = omega arith

pub valid-boolean-requires : goal.valid-boolean-requires
valid-boolean-requires t c =
    record { fits = omega arith; len = c.read16-n.ensures.is; kind = sym c.read16-kind.ensures.is ∙ c.if-kind-eq-BOOLEAN.true }

pub valid-returns-then-kind-eq-BOOLEAN : goal.valid-returns-then-kind-eq-BOOLEAN
valid-returns-then-kind-eq-BOOLEAN t c =
    ends_there (record { span = c.requires; len = c.read16-n.ensures.is; low = omega arith; inside = omega arith }) c.boolean.ensures

pub valid-returns-then-kind-eq-INTEGER : goal.valid-returns-then-kind-eq-INTEGER
valid-returns-then-kind-eq-INTEGER t c =
    integer_told c.type_inv.s (record { span = c.requires; len = c.read16-n.ensures.is; low = omega arith; inside = omega arith }) c.read16-kind.ensures c.if-kind-eq-INTEGER.true

pub valid-returns-then-kind-eq-QUOTE : goal.valid-returns-then-kind-eq-QUOTE
valid-returns-then-kind-eq-QUOTE t c =
    quote_told c.type_inv.s (record { span = c.requires; len = c.read16-n.ensures.is; low = omega arith; inside = omega arith }) c.read16-kind.ensures c.if-kind-eq-QUOTE.true

pub valid-overflow_add-at-2 : goal.valid-overflow_add-at-2
valid-overflow_add-at-2 t c = omega arith

pub valid-overflow_add-at-3 : goal.valid-overflow_add-at-3
valid-overflow_add-at-3 t c = omega arith

pub valid-valid_items-requires : goal.valid-valid_items-requires
valid-valid_items-requires t c = (omega arith, record { order = omega arith; fits = omega arith; short = omega arith })

pub valid-overflow_add-at-then-valid_items : goal.valid-overflow_add-at-then-valid_items
valid-overflow_add-at-then-valid_items t c = omega arith

pub valid-overflow_add-at-then-valid_items-2 : goal.valid-overflow_add-at-then-valid_items-2
valid-overflow_add-at-then-valid_items-2 t c = omega arith

pub valid-shaped-requires : goal.valid-shaped-requires
valid-shaped-requires t c = c.valid_items.ensures.sound c.if-valid_items.true

pub valid-returns-then-valid_items : goal.valid-returns-then-valid_items
valid-returns-then-valid_items t c =
    collection_told c.type_inv.s (record { span = c.requires; len = c.read16-n.ensures.is; low = omega arith; inside = omega arith }) c.read16-kind.ensures c.if-kind-eq-BOOLEAN.false c.if-kind-eq-INTEGER.false c.if-kind-eq-QUOTE.false (c.valid_items.ensures.sound c.if-valid_items.true) c.shaped.ensures

pub valid-returns-else-valid_items : goal.valid-returns-else-valid_items
valid-returns-else-valid_items t c =
    rw c.if-valid_items.false (items_missing c.type_inv.s (record { span = c.requires; len = c.read16-n.ensures.is; low = omega arith; inside = omega arith }) c.read16-kind.ensures c.if-kind-eq-BOOLEAN.false c.if-kind-eq-INTEGER.false c.if-kind-eq-QUOTE.false c.valid_items.ensures c.if-valid_items.false)

pub valid_items-returns-then-at-to : goal.valid_items-returns-then-at-to
valid_items-returns-then-at-to t c = items_end c.requires c.if-at-to.true

pub valid_items-valid-requires : goal.valid_items-valid-requires
valid_items-valid-requires t c = (omega arith, c.requires)

pub valid_items-read16-n-requires : goal.valid_items-read16-n-requires
valid_items-read16-n-requires t c = let i = c.valid.ensures.sound c.if-valid.true in omega arith

pub valid_items-overflow_add-at : goal.valid_items-overflow_add-at
valid_items-overflow_add-at t c = let i = c.valid.ensures.sound c.if-valid.true in omega arith

pub valid_items-valid_items-requires : goal.valid_items-valid_items-requires
valid_items-valid_items-requires t c =
    let i = c.valid.ensures.sound c.if-valid.true in let e = c.read16-n.ensures.is in (omega arith, record { order = omega arith; fits = omega arith; short = omega arith })

pub valid_items-returns-then-valid : goal.valid_items-returns-then-valid
valid_items-returns-then-valid t c =
    items_told c.requires c.if-at-to.false (c.valid.ensures.sound c.if-valid.true) c.read16-n.ensures c.valid_items.ensures

pub valid_items-returns : goal.valid_items-returns
valid_items-returns t c = items_first c.if-at-to.false c.valid.ensures c.if-valid.false
