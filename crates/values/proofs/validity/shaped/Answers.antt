-- `shaped` meets its contract.
use Rattle.values.specs.Value.{set, sequence, map, tuple}
use Rattle.values.proofs.Telling.{tells_true}
use Rattle.values.proofs.Shapes.{shaped_as, shaped_off, tuple_count_few, tuple_most}
use Rattle.values.proofs.validity.shaped.Goals as goal

pub returns-then-kind-eq-SET : goal.returns-then-kind-eq-SET
returns-then-kind-eq-SET c = shaped_as set c.if-kind-eq-SET.true c.ascending.ensures

pub returns-then-kind-eq-SEQUENCE : goal.returns-then-kind-eq-SEQUENCE
returns-then-kind-eq-SEQUENCE c = shaped_as sequence c.if-kind-eq-SEQUENCE.true (λ vs h. tells_true tt)

pub returns-then-kind-eq-MAP : goal.returns-then-kind-eq-MAP
returns-then-kind-eq-MAP c = shaped_as map c.if-kind-eq-MAP.true c.entries.ensures

pub returns-then-n-lt2 : goal.returns-then-n-lt2
returns-then-n-lt2 c = shaped_as tuple c.if-kind-eq-TUPLE.true (tuple_count_few c.count-n.ensures c.if-n-lt2.true)

pub returns-then-kind-eq-TUPLE : goal.returns-then-kind-eq-TUPLE
returns-then-kind-eq-TUPLE c = shaped_as tuple c.if-kind-eq-TUPLE.true (tuple_most c.count-n.ensures c.if-n-lt2.false)

pub returns : goal.returns
returns c =
    shaped_off c.if-kind-eq-SET.false c.if-kind-eq-SEQUENCE.false c.if-kind-eq-MAP.false c.if-kind-eq-TUPLE.false
