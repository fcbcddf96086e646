-- By the kind.
use native.Mathlib.Omega.{arith}
use borrow.Author.Tests.{ne_eqb}
use Rattle.forming.proofs.sizes.enumeration_of.Goals as goal

pub returns-in-38 : goal.returns-in-38
returns-in-38 c = rw c.in-38.is

pub returns-in-42 : goal.returns-in-42
returns-in-42 c = rw c.in-42.is

pub returns-in_default : goal.returns-in_default
returns-in_default c = rw (ne_eqb c.args.k 38 (omega arith), ne_eqb c.args.k 42 (omega arith))
