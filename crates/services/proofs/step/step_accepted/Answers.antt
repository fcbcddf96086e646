-- 10, or the step.
use Rattle.services.proofs.Calls.{part_long, walkable, runnable_loaded, step_few, step_over, step_left}
use mathlib.Core.Path.{sym, ap, ◌∙◌}
use Rattle.meaning.specs.Answer.{pack}
use Rattle.services.specs.Left.{walk_of}
use Rattle.services.proofs.step.step_accepted.Goals as goal
use Rattle.services.proofs.step.step_accepted.Goals.{then-entries-lt-LIMIT-via-then-entries-lt-LIMIT, then-entries-lt-LIMIT-via-else-entries-lt-LIMIT+then-long}

pub returns-then-entries-lt-LIMIT : goal.returns-then-entries-lt-LIMIT
returns-then-entries-lt-LIMIT c =
    let ten = c.pack.ensures ∙ ap (λ n. pack n 0 0) c.number.ensures in
    elim c.then-entries-lt-LIMIT.branch [
      | then-entries-lt-LIMIT-via-then-entries-lt-LIMIT w ↦ step_few c.args.sheet.now c.args.scratch.now (walk_of c.args.entries.now c.args.len.now) c.requires.enough c.args.count c.requires.ok c.pack.result ten w.if-entries-lt-LIMIT.true
      | then-entries-lt-LIMIT-via-else-entries-lt-LIMIT+then-long w ↦ step_over c.args.sheet.now c.args.scratch.now (walk_of c.args.entries.now c.args.len.now) c.requires.enough c.args.count c.requires.ok c.pack.result ten w.if-long.true
    ]

pub step-answer-requires : goal.step-answer-requires
step-answer-requires c =
    record { walkable = walkable c.args.sheet.now c.args.scratch.now c.args.count c.requires.ok c.requires.enough; runnable = runnable_loaded c.args.entries.now c.args.len.now c.load-walk.result c.if-entries-lt-LIMIT.false c.if-long.false c.load-walk.ensures }

pub store-requires : goal.store-requires
store-requires c = (c.step-answer.ensures.sized, c.if-entries-lt-LIMIT.false)

pub returns : goal.returns
returns c =
    step_left c.args.sheet.now c.args.scratch.now (walk_of c.args.entries.now c.args.len.now) c.requires.enough c.args.count c.requires.ok c.if-entries-lt-LIMIT.false c.step-answer.new.s (c.step-answer.auto.s ∙ sym (part_long c.args.scratch.now c.requires.enough)) c.if-long.false c.load-walk.result c.load-walk.ensures _ c.step-answer.ensures _ c.store.ensures
