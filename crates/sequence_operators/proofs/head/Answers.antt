-- `head` meets its contract.
use mathlib.Core.Path.{refl}
use native.Mathlib.Omega.{arith}
use Rattle.values.proofs.Records.{holds}
use Rattle.calling.proofs.Framing.{copyable_down}
use Rattle.sequence_operators.proofs.Firsts.{none_off, first-item, head_done}
use Rattle.sequence_operators.proofs.head.Goals as goal

pub length_of-n-requires : goal.length_of-n-requires
length_of-n-requires c = holds c.requires.held.here

pub returns-then-n-eq-HEAD : goal.returns-then-n-eq-HEAD
returns-then-n-eq-HEAD c = none_off c.length_of-n.ensures.is c.if-n-eq-HEAD.true refl

pub copy_value-requires : goal.copy_value-requires
copy_value-requires c =
    copyable_down (omega arith) (holds (first-item c.requires c.length_of-n.ensures.is c.if-n-eq-HEAD.false).first-at)

pub returns : goal.returns
returns c = head_done c.requires c.length_of-n.ensures.is c.if-n-eq-HEAD.false c.copy_value.ensures
