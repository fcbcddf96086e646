-- `binary` meets its contract, by what it calls.
use Rattle.calling.proofs.Numbered.{binary_as}
use Rattle.operations.proofs.binary.Goals as goal

pub returns-then-operator-eq-CONCATENATE : goal.returns-then-operator-eq-CONCATENATE
returns-then-operator-eq-CONCATENATE c = binary_as _ c.if-operator-eq-CONCATENATE.true c.concatenate.ensures
