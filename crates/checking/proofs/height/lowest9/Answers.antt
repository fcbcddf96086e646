-- Every record lies below the last, and is not higher.
use mathlib.Core.Path.{sym, ◌∙◌}
use Prim.Native.Nat.{◌-◌}
use native.Mathlib.Omega.{arith}
use Rattle.tables.specs.Accepted.{records}
use Rattle.tables.proofs.Laws.Accepted.{fit_records}
use Rattle.checking.proofs.Heights.{leaf_height, few_low, last_low}
use Rattle.checking.proofs.height.lowest9.Goals as goal
use Rattle.checking.proofs.height.lowest9.Goals.{then-count-leaves-via-then-count-leaves, then-count-leaves-via-else-count-leaves+then-is_low}

pub leading_leaves-leaves-requires : goal.leading_leaves-leaves-requires
leading_leaves-leaves-requires c = c.requires.0.whole

pub overflow_add-leaves : goal.overflow_add-leaves
overflow_add-leaves c =
    omega (arith, c.leading_leaves-leaves.ensures.within, c.requires.0.whole.all, c.requires.0.whole.few)

pub lowest_tall-requires : goal.lowest_tall-requires
lowest_tall-requires c = c.requires.0

pub returns : goal.returns
returns c = c.lowest_tall.ensures

pub returns-then-count-leaves : goal.returns-then-count-leaves
returns-then-count-leaves c =
    let rs = records c.args.sheet.now in
    let clear = c.requires.0.clear in
    let all = c.requires.0.whole.all in
    elim c.then-count-leaves.branch [
      | then-count-leaves-via-then-count-leaves w ↦ few_low rs clear c.args.count all c.leading_leaves-leaves.result
          (λ r l. leaf_height rs clear r (omega (arith, c.leading_leaves-leaves.ensures.within, all)) (fit_records c.args.sheet.now r (omega (arith, c.leading_leaves-leaves.ensures.within, all))) (c.leading_leaves-leaves.ensures.leaf r l))
          w.if-count-leaves.true
      | then-count-leaves-via-else-count-leaves+then-is_low w ↦ last_low rs clear c.args.count all (c.args.count - 1) (omega (arith, c.requires.1)) (sym w.if-is_low.true ∙ w.is_low.ensures)
    ]

pub is_low-requires : goal.is_low-requires
is_low-requires c =
    record { here = record { few = c.requires.0.whole.few; within = omega (arith, c.requires.0.whole.all, c.requires.1) }; clear = c.requires.0.clear; room = omega arith }
