-- `put_closing` meets its contract, kind by kind.
use Rattle.values.specs.Value.{sequence, tuple}
use Rattle.print.proofs.Writing.{wrote_as}
use Rattle.print.proofs.Enclosing.{closing_of, closing_else}
use Rattle.print.proofs.put_closing.Goals as goal

pub returns-then-kind-eq-TUPLE : goal.returns-then-kind-eq-TUPLE
returns-then-kind-eq-TUPLE c = λ k e. wrote_as (closing_of tuple k c.if-kind-eq-TUPLE.true e) c.put_bytes.ensures

pub returns-then-kind-eq-SEQUENCE : goal.returns-then-kind-eq-SEQUENCE
returns-then-kind-eq-SEQUENCE c =
    λ k e. wrote_as (closing_of sequence k c.if-kind-eq-SEQUENCE.true e) c.put_bytes-then-kind-eq-SEQUENCE.ensures

pub returns : goal.returns
returns c =
    λ k e. wrote_as (closing_else k c.if-kind-eq-SEQUENCE.false c.if-kind-eq-TUPLE.false e) c.put_bytes-2.ensures
