use mathlib.Core.Path.{sym, ◌∙◌}
use native.Mathlib.Omega.{arith}
use Rattle.patterns.specs.Nodes.{collection_of}
use Rattle.matching.proofs.Counting.{each_kind, ordered_kind}
use Rattle.matching.proofs.Piecing.{held, half_meets, next_low, split_held, split_meets, cut_held, cut_meets, order_low, item_small, paired_held, paired_is, one_held, one_is}
use Rattle.matching.proofs.nodes.piece.Goals as goal

pub overflow_add-d : goal.overflow_add-d
overflow_add-d c =
    omega (arith, next_low c.args.kind _ _ _ _ _ c.requires (sym c.is_split.ensures ∙ c.if-is_split.true))

pub split_part-h-requires : goal.split_part-h-requires
split_part-h-requires c = split_held c.args.kind _ _ _ _ _ c.requires (sym c.is_split.ensures ∙ c.if-is_split.true)

pub returns-then-is_split : goal.returns-then-is_split
returns-then-is_split c =
    rw c.half.ensures (half_meets c.args.kind _ _ _ _ _ c.requires _ (split_meets c.args.kind _ _ _ _ _ c.requires (sym c.is_split.ensures ∙ c.if-is_split.true) _ c.split_part-h.ensures))

pub cut_part-h-requires : goal.cut_part-h-requires
cut_part-h-requires c = cut_held c.args.kind _ _ _ _ _ c.requires c.if-kind-eq-CONCATENATION_PATTERN.true

pub returns-then-kind-eq-CONCATENATION_PATTERN : goal.returns-then-kind-eq-CONCATENATION_PATTERN
returns-then-kind-eq-CONCATENATION_PATTERN c =
    rw c.half-then-kind-eq-CONCATENATION_PATTERN.ensures (half_meets c.args.kind _ _ _ _ _ c.requires _ (cut_meets c.args.kind _ _ _ _ _ c.requires c.if-kind-eq-CONCATENATION_PATTERN.true _ c.cut_part-h.ensures))

pub run_of-all-requires : goal.run_of-all-requires
run_of-all-requires c = held c.args.kind _ _ _ _ _ c.requires

pub nonzero_div-n : goal.nonzero_div-n
nonzero_div-n c = omega (arith, c.width-w.ensures.1)

pub nonzero_div-i : goal.nonzero_div-i
nonzero_div-i c = omega (arith, c.width-w.ensures.1)

pub unit_at-unit-requires : goal.unit_at-unit-requires
unit_at-unit-requires c =
    order_low c.args.kind _ _ _ _ _ c.requires (sym c.is_paired.ensures ∙ c.if-is_paired.true) _ (c.width-w.ensures.0 (collection_of c.args.kind) c.collection_of-c.ensures)

pub overflow_mul-w : goal.overflow_mul-w
overflow_mul-w c =
    omega (arith, item_small c.args.kind _ _ _ _ _ c.requires (sym c.is_paired.ensures ∙ c.if-is_paired.true) _ (c.width-w.ensures.0 (collection_of c.args.kind) c.collection_of-c.ensures) _ c.unit_at-unit.ensures)

pub nonzero_rem-i : goal.nonzero_rem-i
nonzero_rem-i c = omega (arith, c.width-w.ensures.1)

pub overflow_add-w : goal.overflow_add-w
overflow_add-w c =
    omega (arith, item_small c.args.kind _ _ _ _ _ c.requires (sym c.is_paired.ensures ∙ c.if-is_paired.true) _ (c.width-w.ensures.0 (collection_of c.args.kind) c.collection_of-c.ensures) _ c.unit_at-unit.ensures)

pub item_of_run-requires : goal.item_of_run-requires
item_of_run-requires c =
    record { part = _; held = paired_held c.args.kind _ _ _ _ _ c.requires (sym c.is_paired.ensures ∙ c.if-is_paired.true) _ (c.width-w.ensures.0 (collection_of c.args.kind) c.collection_of-c.ensures) _ c.unit_at-unit.ensures; run = c.run_of-all.ensures }

pub returns-then-is_paired : goal.returns-then-is_paired
returns-then-is_paired c =
    paired_is c.args.kind _ _ _ _ _ c.requires (sym c.is_paired.ensures ∙ c.if-is_paired.true) _ (c.width-w.ensures.0 (collection_of c.args.kind) c.collection_of-c.ensures) _ c.unit_at-unit.ensures _ (c.item_of_run.ensures _ (paired_held c.args.kind _ _ _ _ _ c.requires (sym c.is_paired.ensures ∙ c.if-is_paired.true) _ (c.width-w.ensures.0 (collection_of c.args.kind) c.collection_of-c.ensures) _ c.unit_at-unit.ensures) c.run_of-all.ensures)

pub item_of_run-requires-2 : goal.item_of_run-requires-2
item_of_run-requires-2 c =
    record { part = _; held = one_held c.args.kind _ _ _ _ _ c.requires (each_kind c.args.kind (sym c.is_split.ensures ∙ c.if-is_split.false) c.if-kind-eq-CONCATENATION_PATTERN.false) (ordered_kind c.args.kind (sym c.is_split.ensures ∙ c.if-is_split.false) (sym c.is_paired.ensures ∙ c.if-is_paired.false)); run = c.run_of-all.ensures }

pub returns : goal.returns
returns c =
    one_is c.args.kind _ _ _ _ _ c.requires (each_kind c.args.kind (sym c.is_split.ensures ∙ c.if-is_split.false) c.if-kind-eq-CONCATENATION_PATTERN.false) (ordered_kind c.args.kind (sym c.is_split.ensures ∙ c.if-is_split.false) (sym c.is_paired.ensures ∙ c.if-is_paired.false)) _ (c.item_of_run-2.ensures _ (one_held c.args.kind _ _ _ _ _ c.requires (each_kind c.args.kind (sym c.is_split.ensures ∙ c.if-is_split.false) c.if-kind-eq-CONCATENATION_PATTERN.false) (ordered_kind c.args.kind (sym c.is_split.ensures ∙ c.if-is_split.false) (sym c.is_paired.ensures ∙ c.if-is_paired.false))) c.run_of-all.ensures)
