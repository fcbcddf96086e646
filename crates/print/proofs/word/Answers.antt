-- The row of a refusal has its word; a refusal past the rows has none. Where the rows' letters stand is free.
use mathlib.Core.Path.{ap, ◌∙◌}
use Rattle.print.specs.Text.{refusal_word}
use Rattle.print.proofs.Wording.{spelled, word_of, no_word}
use Rattle.print.proofs.word.Goals as goal

pub returns-then-row-lt12 : goal.returns-then-row-lt12
returns-then-row-lt12 c =
    simp spelled (word_of c.number-row.result (λ j. (0, 0)) ∙ ap refusal_word c.number-row.ensures)

pub returns : goal.returns
returns c = no_word c.number-row.result c.if-row-lt12.false ∙ ap refusal_word c.number-row.ensures
