-- The last by its kind, the others by their marks.
use Rattle.checking.proofs.Marks.{stray_last, stray_named}
use Rattle.tables.specs.Record.{is_pattern}
use Rattle.tables.specs.Accepted.{records}
use native.Mathlib.Omega.{arith}
use mathlib.Core.Path.{ap, ◌∙◌}
use Rattle.checking.proofs.naming.is_stray.Goals as goal

pub overflow_add-r : goal.overflow_add-r
overflow_add-r c = omega (arith, c.requires.1, c.requires.0.whole.all, c.requires.0.whole.few)

pub returns-then-r-count : goal.returns-then-r-count
returns-then-r-count c =
    stray_last (records c.args.sheet.now) c.args.r c.is_pattern.result (omega (arith, c.if-r-count.true, c.requires.0.whole.all)) (c.is_pattern.ensures ∙ ap is_pattern c.kind.ensures.0)

pub returns : goal.returns
returns c =
    stray_named (records c.args.sheet.now) c.args.r _ (λ e. c.if-r-count.false (omega (arith, e, c.requires.0.whole.all))) (c.requires.0.marked.is c.args.r (omega (arith, c.requires.1, c.requires.0.whole.all, c.requires.0.whole.few)))
