use Rattle.bindings.proofs.Windows.{width_most, reach_there, reach_lent, reach_or}
use native.Mathlib.Omega.{arith}
use Rattle.bindings.proofs.reach.Goals as goal

pub overflow_mul-cursor : goal.overflow_mul-cursor
overflow_mul-cursor c = omega (arith, width_most _ _ _ c.args.at c.args.whole c.args.to _ _ c.requires.reachable)

pub overflow_add-cursor : goal.overflow_add-cursor
overflow_add-cursor c =
    omega (arith, width_most _ _ _ c.args.at c.args.whole c.args.to _ _ c.requires.reachable, c.requires.reachable.window-is.narrow)

pub overflow_mul-cursor-then-cursor-k : goal.overflow_mul-cursor-then-cursor-k
overflow_mul-cursor-then-cursor-k c =
    omega (arith, width_most _ _ _ c.args.at c.args.whole c.args.to _ _ c.requires.reachable, c.requires.reachable.window-is.narrow)

pub returns-then-cursor-k-le-WINDOW : goal.returns-then-cursor-k-le-WINDOW
returns-then-cursor-k-le-WINDOW c =
    reach_there _ _ _ c.args.at c.args.whole c.args.to _ _ c.requires.reachable (omega arith) (omega arith)

pub form_from-requires : goal.form_from-requires
form_from-requires c = record { readable = c.requires.readable; lent_from = reach_lent _ _ _ c.args.at c.args.whole c.args.to _ _ c.requires.reachable }

pub returns : goal.returns
returns c =
    rw c.unwrap_or.ensures (reach_or _ _ _ c.args.at c.args.whole c.args.to _ _ c.requires.reachable _ _ c.form_from.ensures)
