-- `number_at` meets its contract.
use mathlib.Core.Path.{◌∙◌}
use mathlib.Core.Logic.{⊎_elim}
use native.Mathlib.Omega.{arith}
use Rattle.values.proofs.Reading.{boolean_room, boolean_number, quote_number}
use Rattle.values.proofs.number_at.Goals as goal

pub bounds-s-at : goal.bounds-s-at
bounds-s-at c = omega (arith, boolean_room c.requires.0.held (c.requires.0.kind ∙ c.if-kind-eq-BOOLEAN.true))

pub returns-then-kind-eq-BOOLEAN : goal.returns-then-kind-eq-BOOLEAN
returns-then-kind-eq-BOOLEAN c = rw c.from.ensures (boolean_number (c.requires.0.kind ∙ c.if-kind-eq-BOOLEAN.true))

pub quote_at-requires : goal.quote_at-requires
quote_at-requires c =
    record { held = c.requires.0.held; kind = c.requires.0.kind ∙ ⊎_elim (λ e. absurd (c.if-kind-eq-BOOLEAN.false e)) (λ e. e) c.requires.1 }

pub returns : goal.returns
returns c = quote_number c.quote_at.ensures
