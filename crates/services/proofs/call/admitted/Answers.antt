-- Rule by rule.
use Rattle.services.proofs.Admitting.{admits_1, admits_2, admits_9, not_accepted}
use mathlib.Core.Path.{◌∙◌}
use Rattle.services.proofs.call.admitted.Goals as goal

pub returns-then-scratch-lt-SCRATCH : goal.returns-then-scratch-lt-SCRATCH
returns-then-scratch-lt-SCRATCH c =
    record { answer = admits_1 c.args.scratch c.args.buffer c.args.table.now c.if-scratch-lt-SCRATCH.true; indexed = λ n e. not_accepted e }

pub returns-then-buffer-lt-LIMIT : goal.returns-then-buffer-lt-LIMIT
returns-then-buffer-lt-LIMIT c =
    record { answer = admits_2 c.args.scratch c.args.buffer c.args.table.now c.if-scratch-lt-SCRATCH.false c.if-buffer-lt-LIMIT.true; indexed = λ n e. not_accepted e }

pub returns : goal.returns
returns c =
    record { answer = c.check.ensures.answer ∙ admits_9 c.args.scratch c.args.buffer c.args.table.now c.if-scratch-lt-SCRATCH.false c.if-buffer-lt-LIMIT.false; indexed = c.check.ensures.indexed }
