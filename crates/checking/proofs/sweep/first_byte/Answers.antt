-- By kind.
use native.Mathlib.Omega.{arith}
use Rattle.tables.proofs.Laws.Kinds.{plain_begins, operator_begins}
use Rattle.checking.proofs.sweep.first_byte.Goals as goal

pub returns-then-kind-lt-IF : goal.returns-then-kind-lt-IF
returns-then-kind-lt-IF c = operator_begins c.args.kind c.requires.0 c.if-kind-lt-IF.true

pub returns : goal.returns
returns c = plain_begins c.args.kind c.if-kind-lt-IF.false (omega (arith, c.if-kind-gt-APPLY.false))
