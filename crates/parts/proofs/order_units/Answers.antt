-- `order_units`: units of one set or map by their bits, others by kind, and then item by item.
use mathlib.Core.Path.{sym, subst}
use native.Mathlib.Omega.{arith}
use Rattle.values.specs.Contract.{KindAt}
use Rattle.parts.proofs.Parting.{record_of, units_low, kind_record, kinds_apart}
use Rattle.parts.proofs.Doubling.{items_single}
use Rattle.parts.proofs.Masking.{masks_order}
use Rattle.parts.proofs.Ordering.{units_held, units_order}
use Rattle.parts.proofs.order_units.Goals as goal

pub returns-then-a-b : goal.returns-then-a-b
returns-then-a-b c = masks_order _ _ _ c.requires.2 c.requires.3 c.if-a-b.true _ c.order.ensures

pub kind_of-kind-requires : goal.kind_of-kind-requires
kind_of-kind-requires c = record_of (λ z. cc (c.requires.2)) c.requires.0.here

pub kind_of-other-requires : goal.kind_of-other-requires
kind_of-other-requires c = record_of (λ z. cc (c.requires.3)) c.requires.1.here

pub returns-then-kind-other : goal.returns-then-kind-other
returns-then-kind-other c =
    kinds_apart (kind_record (λ z. cc (c.requires.2)) c.kind_of-kind.ensures) (kind_record (λ z. cc (c.requires.3)) c.kind_of-other.ensures) _ c.if-kind-other.true c.cmp.ensures

pub order-requires-then-kind-eq-SET : goal.order-requires-then-kind-eq-SET
order-requires-then-kind-eq-SET c =
    (units_held c.requires.2 c.kind_of-kind.ensures (items_single c.kind_of-kind.result _ (units_low c.requires.2 c.requires.0.here) (λ z. omega (arith, z, c.if-kind-eq-SET.true))) c.requires.0, units_held c.requires.3 (subst (KindAt _ _) (sym c.if-kind-other.false) c.kind_of-other.ensures) (items_single c.kind_of-kind.result _ (units_low c.requires.3 c.requires.1.here) (λ z. omega (arith, z, c.if-kind-eq-SET.true))) c.requires.1)

pub returns-then-kind-eq-SET : goal.returns-then-kind-eq-SET
returns-then-kind-eq-SET c =
    units_order c.requires.2 c.requires.3 c.kind_of-kind.ensures (subst (KindAt _ _) (sym c.if-kind-other.false) c.kind_of-other.ensures) (items_single c.kind_of-kind.result _ (units_low c.requires.2 c.requires.0.here) (λ z. omega (arith, z, c.if-kind-eq-SET.true))) (items_single c.kind_of-kind.result _ (units_low c.requires.3 c.requires.1.here) (λ z. omega (arith, z, c.if-kind-eq-SET.true))) _ c.order-then-kind-eq-SET.ensures

pub item_mask-m-requires : goal.item_mask-m-requires
item_mask-m-requires c = units_low c.requires.2 c.requires.0.here

pub item_mask-n-requires : goal.item_mask-n-requires
item_mask-n-requires c = units_low c.requires.3 c.requires.1.here

pub order-requires-2 : goal.order-requires-2
order-requires-2 c =
    (units_held c.requires.2 c.kind_of-kind.ensures c.item_mask-m.ensures c.requires.0, units_held c.requires.3 (subst (KindAt _ _) (sym c.if-kind-other.false) c.kind_of-other.ensures) c.item_mask-n.ensures c.requires.1)

pub returns : goal.returns
returns c =
    units_order c.requires.2 c.requires.3 c.kind_of-kind.ensures (subst (KindAt _ _) (sym c.if-kind-other.false) c.kind_of-other.ensures) c.item_mask-m.ensures c.item_mask-n.ensures _ c.order-2.ensures
