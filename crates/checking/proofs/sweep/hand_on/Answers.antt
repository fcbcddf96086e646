-- By role.
use mathlib.Core.Path.{sym, ◌∙◌}
use mathlib.Core.Logic.{⊎_elim}
use Rattle.checking.proofs.sweep.hand_on.Goals as goal

pub returns-then-has : goal.returns-then-has
returns-then-has c = rw (c.in-Condition.is, sym c.has.ensures ∙ c.if-has.true)

pub returns-in-Plain : goal.returns-in-Plain
returns-in-Plain c = sym (⊎_elim (λ e. rw e) (⊎_elim (λ e. rw e) (λ e. rw e)) c.in-Plain.is)

pub returns-else-has : goal.returns-else-has
returns-else-has c = rw (c.in-Condition.is, sym c.has.ensures ∙ c.if-has.false) c.covered.ensures

pub returns-in-Body : goal.returns-in-Body
returns-in-Body c = rw c.in-Body.is c.covered-in-Body.ensures
