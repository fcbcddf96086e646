-- `set_operators::members::append_if` meets its contract.
use mathlib.Core.Path.{ap}
use Rattle.std.specs.Prelude.{is_ok}
use Rattle.set_operators.proofs.Choosing.{append_fits, append_done, passed_over}
use Rattle.set_operators.proofs.members.append_if.Goals as goal

pub unwrap-requires : goal.unwrap-requires
unwrap-requires c = ap is_ok (append_fits c.requires c.append.ensures)

pub returns-then-wanted : goal.returns-then-wanted
returns-then-wanted c = append_done c.requires c.append.ensures c.if-wanted.true

pub returns-else-wanted : goal.returns-else-wanted
returns-else-wanted c = passed_over _ _ _ c.if-wanted.false
