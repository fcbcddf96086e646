use mathlib.Core.Path.{sym, subst, ◌∙◌}
use Rattle.prelude.proofs.Absurd.{true_false}
use Rattle.parts.specs.Part.{PartHeld}
use Rattle.forming.proofs.Needing.{met_by_word}
use Rattle.forming.proofs.Told.{err_of}
use Rattle.forming.proofs.needs.may_match.Goals as goal

pub returns-then-not-asks : goal.returns-then-not-asks
returns-then-not-asks c = λ z. true_false z

pub asked_by_pattern-requires : goal.asked_by_pattern-requires
asked_by_pattern-requires c = (c.requires.0, subst (PartHeld _) (sym c.unpack-part.ensures) c.requires.1)

pub returns : goal.returns
returns c = λ z.
    let p = err_of c.asked_by_pattern.result (sym c.is_ok.ensures.value ∙ z) in
    met_by_word _ _ _ _ _ c.unpack-part.ensures _ (c.asked_by_pattern.ensures p.0 p.1)
