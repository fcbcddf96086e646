-- `order`: by the items at which the two runs stand, then by their rests. The measure is what is left of the first run.
use native.Mathlib.Omega.{arith}
use Rattle.values.proofs.Records.{holds}
use Rattle.parts.proofs.Running.{run_head, more_held}
use Rattle.parts.proofs.Comparing.{apart, both_end, first_end, second_end, first_settled, first-same, rest_held}
use Rattle.parts.proofs.runs.+order.Goals as goal

pub returns-then-b : goal.returns-then-b
returns-then-b t c = both_end c.if-a.true c.if-b.true

pub returns-then-a : goal.returns-then-a
returns-then-a t c = first_end c.if-a.true c.if-b.false

pub returns-then-b-2 : goal.returns-then-b-2
returns-then-b-2 t c = second_end c.if-a.false c.if-b-2.true

pub compare-first-requires : goal.compare-first-requires
compare-first-requires t c =
    let x = c.requires.0.here in
    let y = c.requires.1.here in
    (holds (run_head _ (apart c.if-a.false x) x).first-at, holds (run_head _ (apart c.if-b-2.false y) y).first-at)

pub rest-x-requires : goal.rest-x-requires
rest-x-requires t c = more_held (apart c.if-a.false c.requires.0.here) c.requires.0

pub rest-y-requires : goal.rest-y-requires
rest-y-requires t c = more_held (apart c.if-b-2.false c.requires.1.here) c.requires.1

pub order-requires : goal.order-requires
order-requires t c =
    let e = c.rest-x.ensures in
    let z = c.decreases in
    (omega arith, (rest_held c.if-a.false c.requires.0 c.rest-x.ensures, rest_held c.if-b-2.false c.requires.1 c.rest-y.ensures))

pub returns-in_default : goal.returns-in_default
returns-in_default t c = first_settled c.if-a.false c.if-b-2.false c.compare-first.ensures c.in_default.not-Equal

pub returns : goal.returns
returns t c =
    first-same c.if-a.false c.if-b-2.false c.compare-first.ensures _ c.in-Equal.is c.rest-x.ensures c.rest-y.ensures c.order.ensures
