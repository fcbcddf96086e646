use mathlib.Core.Path.{sym, ◌∙◌}
use native.Mathlib.Omega.{arith}
use Rattle.patterns.specs.Nodes.{collection_of}
use Rattle.matching.proofs.Counting.{kind_unfit, is_held, count_few, units_are, four_units, each_kind, ordered_kind, by_splits, by_cuts, count_unfit, by_orders, by_items}
use Rattle.matching.proofs.nodes.meet.Goals as goal

pub returns-then-k-c : goal.returns-then-k-c
returns-then-k-c c =
    kind_unfit c.args.kind c.args.n _ _ _ c.kind_of_part-k.ensures (λ e. c.if-k-c.true (e ∙ sym c.collection_of-c.ensures))

pub count_of_part-count-requires : goal.count_of_part-count-requires
count_of_part-count-requires c =
    is_held c.args.kind c.args.n _ _ _ c.kind_of_part-k.ensures (c.if-k-c.false ∙ c.collection_of-c.ensures) c.requires.2

pub overflow_add-result : goal.overflow_add-result
overflow_add-result c =
    omega (arith, count_few c.args.kind c.args.n _ _ _ c.kind_of_part-k.ensures (c.if-k-c.false ∙ c.collection_of-c.ensures) _ c.count_of_part-count.ensures c.requires.2)

pub returns-then-kind-eq-CONCATENATION_PATTERN : goal.returns-then-kind-eq-CONCATENATION_PATTERN
returns-then-kind-eq-CONCATENATION_PATTERN c =
    by_cuts c.args.kind c.args.n _ _ _ c.kind_of_part-k.ensures (c.if-k-c.false ∙ c.collection_of-c.ensures) _ c.count_of_part-count.ensures c.if-kind-eq-CONCATENATION_PATTERN.true c.requires.2

pub nonzero_div-units : goal.nonzero_div-units
nonzero_div-units c = omega (arith, c.width-w.ensures.1)

pub returns-then-is_split : goal.returns-then-is_split
returns-then-is_split c =
    by_splits c.args.kind c.args.n _ _ _ c.kind_of_part-k.ensures (c.if-k-c.false ∙ c.collection_of-c.ensures) _ c.count_of_part-count.ensures _ (units_are c.args.kind c.args.n _ _ _ c.kind_of_part-k.ensures (c.if-k-c.false ∙ c.collection_of-c.ensures) _ c.count_of_part-count.ensures _ c.width-w.ensures.0) (sym c.is_split.ensures ∙ c.if-is_split.true) c.meet_halves.result c.meet_halves.ensures

pub returns-then-count-n : goal.returns-then-count-n
returns-then-count-n c =
    count_unfit c.args.kind c.args.n _ _ _ c.kind_of_part-k.ensures (c.if-k-c.false ∙ c.collection_of-c.ensures) _ c.count_of_part-count.ensures (each_kind c.args.kind (sym c.is_split.ensures ∙ c.if-is_split.false) c.if-kind-eq-CONCATENATION_PATTERN.false) c.if-count-n.true

pub orders-requires : goal.orders-requires
orders-requires c =
    four_units (collection_of c.args.kind) _ _ (omega (arith, c.requires.1, c.if-count-n.false)) (c.width-w.ensures.0 (collection_of c.args.kind) (c.if-k-c.false ∙ c.collection_of-c.ensures))

pub returns-then-is_paired : goal.returns-then-is_paired
returns-then-is_paired c =
    by_orders c.args.kind c.args.n _ _ _ c.kind_of_part-k.ensures (c.if-k-c.false ∙ c.collection_of-c.ensures) _ c.count_of_part-count.ensures _ (units_are c.args.kind c.args.n _ _ _ c.kind_of_part-k.ensures (c.if-k-c.false ∙ c.collection_of-c.ensures) _ c.count_of_part-count.ensures _ c.width-w.ensures.0) (sym c.is_paired.ensures ∙ c.if-is_paired.true) c.if-count-n.false _ c.orders.ensures

pub returns : goal.returns
returns c =
    by_items c.args.kind c.args.n _ _ _ c.kind_of_part-k.ensures (c.if-k-c.false ∙ c.collection_of-c.ensures) _ c.count_of_part-count.ensures (each_kind c.args.kind (sym c.is_split.ensures ∙ c.if-is_split.false) c.if-kind-eq-CONCATENATION_PATTERN.false) (ordered_kind c.args.kind (sym c.is_split.ensures ∙ c.if-is_split.false) (sym c.is_paired.ensures ∙ c.if-is_paired.false)) c.if-count-n.false
