use native.Mathlib.Omega.{arith}
use Rattle.parts.proofs.Doubling.{items_doubled, items_single}
use Rattle.parts.proofs.masks.item_mask.Goals as goal

pub returns-then-kind-ne-MAP : goal.returns-then-kind-ne-MAP
returns-then-kind-ne-MAP c = items_single _ _ c.requires c.if-kind-ne-MAP.true

pub returns : goal.returns
returns c =
    let e = items_doubled c.args.kind c.args.m c.requires (omega (arith, c.if-kind-ne-MAP.false)) in
    rw (c.twice.ensures.0, c.twice-2.ensures.0, c.twice-3.ensures.0) e
