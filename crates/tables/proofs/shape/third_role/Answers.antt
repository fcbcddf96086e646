-- Kind 12.
use borrow.Author.Tests.{eq-eqb, ne_eqb}
use Rattle.tables.proofs.shape.third_role.Goals as goal

pub returns-then-kind-eq-LET : goal.returns-then-kind-eq-LET
returns-then-kind-eq-LET c = rw (eq-eqb c.args.kind 12 c.if-kind-eq-LET.true)

pub returns : goal.returns
returns c = rw (ne_eqb c.args.kind 12 c.if-kind-eq-LET.false)
