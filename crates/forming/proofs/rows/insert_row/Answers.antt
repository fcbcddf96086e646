use Rattle.forming.proofs.Rowing.{enter_there, enter_full, enter_new, none_appended, one_appended}
use Rattle.prelude.proofs.Absurd.{impossible}
use mathlib.Core.Path.{refl}
use native.Mathlib.Omega.{arith}
use Rattle.forming.proofs.rows.insert_row.Goals as goal

pub find_place-requires : goal.find_place-requires
find_place-requires c = ((c.requires.binding, c.requires.stands), (c.requires.bindings, c.requires.are))

pub returns-in_default : goal.returns-in_default
returns-in_default c =
    record { right = enter_there _ _ _ _ _ _ c.in_default.ensures; appended = none_appended _ _ _ _ }

pub returns-then-n-ge-BINDINGS : goal.returns-then-n-ge-BINDINGS
returns-then-n-ge-BINDINGS c =
    record { right = λ b bs h g. (refl, enter_full _ _ _ _ _ _ c.in-Err.ensures (omega arith) b bs h g); appended = λ k e. impossible cc }

pub put_row-requires : goal.put_row-requires
put_row-requires c = ((c.requires.binding, c.requires.stands), omega arith, c.requires.are.wide)

pub shift_in-requires : goal.shift_in-requires
shift_in-requires c =
    ((c.in-Err.ensures c.requires.binding c.requires.bindings c.requires.stands c.requires.are).0, omega arith, c.requires.are.long)

pub overflow_add-result : goal.overflow_add-result
overflow_add-result c = omega arith

pub returns : goal.returns
returns c =
    record { right = enter_new _ _ _ _ _ _ c.in-Err.ensures (omega arith) _ _ c.put_row.ensures c.shift_in.ensures; appended = λ k e. one_appended _ _ _ _ _ k c.put_row.ensures e }
