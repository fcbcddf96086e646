-- By the operand's number.
use native.Mathlib.Omega.{arith}
use mathlib.Core.Path.{sym}
use Rattle.tables.proofs.Laws.Roles.{binder_later}
use Rattle.tables.proofs.shape.binder_role.Goals as goal

pub returns-in-0 : goal.returns-in-0
returns-in-0 c = rw c.in-0.is c.first_role.ensures

pub returns-in-1 : goal.returns-in-1
returns-in-1 c = rw c.in-1.is

pub returns-in-2 : goal.returns-in-2
returns-in-2 c = rw c.in-2.is c.third_role.ensures

pub returns-in_default : goal.returns-in_default
returns-in_default c =
    sym (binder_later c.args.kind c.args.i (omega arith) (omega arith) (omega arith))
