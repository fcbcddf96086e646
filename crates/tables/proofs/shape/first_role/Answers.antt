-- Kinds 17 and 19.
use borrow.Author.Tests.{ne_eqb}
use Rattle.tables.proofs.shape.first_role.Goals as goal

pub returns-in-17 : goal.returns-in-17
returns-in-17 c = rw c.in-17.is

pub returns-in-19 : goal.returns-in-19
returns-in-19 c = rw c.in-19.is

pub returns-in_default : goal.returns-in_default
returns-in_default c = rw (ne_eqb c.args.kind 17 c.in_default.in_default-own.rest.0.1, ne_eqb c.args.kind 19 c.in_default.in_default-own.rest.1)
