-- `applying::apply` meets its contract, by the kind of what is applied.
use Rattle.values.specs.Value.{sequence, map}
use Rattle.application.proofs.Finding.{applicable, apply-done, apply_wrong}
use Rattle.application.proofs.apply.Goals as goal

pub item-requires : goal.item-requires
item-requires c = applicable c.requires c.kind_of-kind.ensures sequence c.if-kind-eq-SEQUENCE.true

pub returns-then-kind-eq-SEQUENCE : goal.returns-then-kind-eq-SEQUENCE
returns-then-kind-eq-SEQUENCE c = apply-done c.requires c.kind_of-kind.ensures sequence c.if-kind-eq-SEQUENCE.true c.item.ensures

pub at_key-requires : goal.at_key-requires
at_key-requires c = applicable c.requires c.kind_of-kind.ensures map c.if-kind-eq-MAP.true

pub returns-then-kind-eq-MAP : goal.returns-then-kind-eq-MAP
returns-then-kind-eq-MAP c = apply-done c.requires c.kind_of-kind.ensures map c.if-kind-eq-MAP.true c.at_key.ensures

pub returns : goal.returns
returns c = apply_wrong c.requires c.kind_of-kind.ensures c.if-kind-eq-SEQUENCE.false c.if-kind-eq-MAP.false
