-- A leaf has height 1, and a record with leaves alone as operands at most 2.
use mathlib.Core.Path.{◌≡◌, sym, ap, ◌∙◌}
use Prim.Native.Nat.{ℕ, ◌<◌, ◌≤◌}
use native.Mathlib.Omega.{arith}
use lib.ListN.{length}
use Rattle.prelude.proofs.Absurd.{never}
use Rattle.prelude.proofs.Truth.{by_lower}
use Rattle.tables.specs.Record.{is_leaf}
use Rattle.tables.specs.Accepted.{records}
use Rattle.tables.proofs.Laws.Accepted.{fit_records, operand_lower}
use Rattle.checking.proofs.Heights.{leaf_height, low_start, low_more, all_low}
use Rattle.checking.proofs.height.is_flat.Goals as goal

pub is_leaf-requires : goal.is_leaf-requires
is_leaf-requires c = c.kind-k.ensures.1

pub returns-then-is_leaf : goal.returns-then-is_leaf
returns-then-is_leaf c =
    λ e. omega (arith, leaf_height (records c.args.sheet.now) c.requires.clear c.args.r c.requires.here.within (fit_records c.args.sheet.now c.args.r c.requires.here.within) (sym (c.is_leaf.ensures ∙ ap is_leaf c.kind-k.ensures.0) ∙ c.if-is_leaf.true), c.requires.room)

pub returns-then-most-eq1 : goal.returns-then-most-eq1
returns-then-most-eq1 c = λ e. never e

pub first_of-first-requires : goal.first_of-first-requires
first_of-first-requires c = (sym c.is_leaf.ensures ∙ c.if-is_leaf.false, c.kind-k.ensures.1)

pub loop-i-init : goal.loop-i-init
loop-i-init c = low_start (records c.args.sheet.now) c.requires.clear c.args.r c.requires.here.within 1

pub is_leaf-requires-in-loop-i : goal.is_leaf-requires-in-loop-i
is_leaf-requires-in-loop-i c = c.kind.ensures.1

pub returns-then-not-is_leaf : goal.returns-then-not-is_leaf
returns-then-not-is_leaf c = λ e. never e

pub loop-i-preserved : goal.loop-i-preserved
loop-i-preserved c =
    let is_within : c.operand_from-n.result < length (records c.args.sheet.now) = omega (arith, operand_lower (records c.args.sheet.now) c.requires.clear c.args.r c.loop-i.i c.requires.here.within (omega (arith, c.loop-i-test.true, c.operands_from-count.ensures.0)), c.operand_from-n.ensures.0, c.requires.here.within) in
    low_more (records c.args.sheet.now) c.requires.clear c.args.r c.requires.here.within 1 c.loop-i.i c.operand_from-n.result c.operand_from-n.ensures.0 c.loop-i.invariant
    (omega (arith, leaf_height (records c.args.sheet.now) c.requires.clear c.operand_from-n.result is_within (fit_records c.args.sheet.now c.operand_from-n.result is_within) (sym (c.is_leaf-in-loop-i.ensures ∙ ap is_leaf c.kind.ensures.0) ∙ c.if-not-is_leaf.false)))

-- There is room for two, where not only for one.
two : (m : ℕ) → 0 < m → (m ≡ 1 → ⊥) → 2 ≤ m
two m h f = by_lower 1 m (λ l. omega arith) (λ l. absurd (f (omega arith)))

pub returns : goal.returns
returns c =
    λ e. omega (arith, all_low (records c.args.sheet.now) c.requires.clear c.args.r c.requires.here.within 1 c.loop-i.i c.loop-i.invariant (omega (arith, c.loop-i-test.false, c.operands_from-count.ensures.0)), two c.args.most c.requires.room c.if-most-eq1.false)

pub kind-requires : goal.kind-requires
kind-requires c =
    let is_within : c.operand_from-n.result < length (records c.args.sheet.now) = omega (arith, operand_lower (records c.args.sheet.now) c.requires.clear c.args.r c.loop-i.i c.requires.here.within (omega (arith, c.loop-i-test.true, c.operands_from-count.ensures.0)), c.operand_from-n.ensures.0, c.requires.here.within) in
    is_within
