-- `set_operators::membership` meets its contract.
use mathlib.Core.Path.{refl}
use Rattle.values.specs.Value.{set}
use Rattle.set_operators.proofs.Answers.{membership_off, membership_done}
use Rattle.set_operators.proofs.membership.Goals as goal

pub returns-then-not-is_of_kind : goal.returns-then-not-is_of_kind
returns-then-not-is_of_kind c = membership_off c.requires.1 c.requires.2 c.is_of_kind.ensures c.if-not-is_of_kind.true

pub contains-found-requires : goal.contains-found-requires
contains-found-requires c = (c.is_of_kind.ensures.yes set refl c.if-not-is_of_kind.false, c.requires.0.left)

pub returns : goal.returns
returns c =
    membership_done c.requires.1 c.requires.2 c.is_of_kind.ensures c.if-not-is_of_kind.false c.requires.0 c.contains-found.ensures c.put_truth.ensures
