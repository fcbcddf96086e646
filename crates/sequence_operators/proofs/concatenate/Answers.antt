-- `concatenate` meets its contract.
use mathlib.Core.Path.{refl}
use Rattle.values.specs.Value.{sequence}
use Rattle.operators.specs.Operators.{binary}
use Rattle.calling.proofs.Kinding.{has_two, off_two, on_two}
use Rattle.sequence_operators.proofs.Joining.{concatenated}
use Rattle.sequence_operators.proofs.concatenate.Goals as goal

pub join-requires : goal.join-requires
join-requires c = has_two sequence sequence c.requires c.kinds_are.ensures c.if-kinds_are.true

pub returns-then-kinds_are : goal.returns-then-kinds_are
unfolding binary
returns-then-kinds_are c =
    on_two (λ v w. refl) (has_two sequence sequence c.requires c.kinds_are.ensures c.if-kinds_are.true) c.join.ensures

pub returns : goal.returns
unfolding binary
returns c =
    off_two sequence sequence {f = concatenated} (λ v w. refl) c.kinds_are.ensures c.if-kinds_are.false
