-- `put_opening` meets its contract, kind by kind.
use mathlib.Core.Path.{ap, sym, ◌∙◌}
use Rattle.values.specs.Value.{set, sequence, map, tuple}
use Rattle.print.specs.Contract.{opening}
use Rattle.print.proofs.Writing.{wrote_as}
use Rattle.print.proofs.Enclosing.{opening_of, opening_else}
use Rattle.print.proofs.put_opening.Goals as goal

pub returns-then-kind-eq-SET : goal.returns-then-kind-eq-SET
returns-then-kind-eq-SET c = λ k e. wrote_as (opening_of set k c.args.is_empty c.if-kind-eq-SET.true e) c.put_bytes.ensures

pub returns-then-kind-eq-SEQUENCE : goal.returns-then-kind-eq-SEQUENCE
returns-then-kind-eq-SEQUENCE c =
    λ k e. wrote_as (opening_of sequence k c.args.is_empty c.if-kind-eq-SEQUENCE.true e) c.put_bytes-then-kind-eq-SEQUENCE.ensures

pub returns-then-kind-eq-TUPLE : goal.returns-then-kind-eq-TUPLE
returns-then-kind-eq-TUPLE c =
    λ k e. wrote_as (opening_of tuple k c.args.is_empty c.if-kind-eq-TUPLE.true e) c.put_bytes-then-kind-eq-TUPLE.ensures

pub returns-then-is_empty : goal.returns-then-is_empty
returns-then-is_empty c =
    λ k e. wrote_as (ap (opening map) (sym c.if-is_empty.true) ∙ opening_else k c.args.is_empty c.if-kind-eq-SET.false c.if-kind-eq-SEQUENCE.false c.if-kind-eq-TUPLE.false e) c.put_bytes-then-is_empty.ensures

pub returns : goal.returns
returns c =
    λ k e. wrote_as (ap (opening map) (sym c.if-is_empty.false) ∙ opening_else k c.args.is_empty c.if-kind-eq-SET.false c.if-kind-eq-SEQUENCE.false c.if-kind-eq-TUPLE.false e) c.put_bytes-2.ensures
