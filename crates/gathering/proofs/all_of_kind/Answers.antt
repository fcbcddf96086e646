-- `all_of_kind` meets its contract: the answer from here on is the answer from the start on.
use native.Mathlib.Omega.{arith}
use Rattle.values.proofs.Records.{holds}
use Rattle.gathering.proofs.Walks.{walked_first}
use Rattle.gathering.specs.Kinds.{of_kind}
use Rattle.gathering.proofs.Testing.{test_start, test_fails, test_on, test_end, kind_differs, kind_agrees}
use Rattle.gathering.proofs.all_of_kind.Goals as goal

pub loop-p-init : goal.loop-p-init
loop-p-init c = test_start {I = Unit} (λ i. of_kind c.args.kind)

pub kind_of-requires : goal.kind_of-requires
kind_of-requires c = let h = c.requires in holds (walked_first (omega arith) (c.loop-p.invariant h.0 h.1)).first-at

pub returns-then-kind_of-kind : goal.returns-then-kind_of-kind
returns-then-kind_of-kind c =
    λ vs h. test_fails {I = Unit} (λ i. of_kind c.args.kind) c.loop-p.invariant (omega arith) tt (kind_differs c.kind_of.ensures c.if-kind_of-kind.true) vs h

pub length_of-p-requires : goal.length_of-p-requires
length_of-p-requires c = let h = c.requires in holds (walked_first (omega arith) (c.loop-p.invariant h.0 h.1)).first-at

pub overflow_add-p : goal.overflow_add-p
overflow_add-p c =
    let h = c.requires in let y = walked_first (omega arith) (c.loop-p.invariant h.0 h.1) in omega (arith, c.length_of-p.ensures.is)

pub loop-p-smaller : goal.loop-p-smaller
loop-p-smaller c =
    let h = c.requires in let y = walked_first (omega arith) (c.loop-p.invariant h.0 h.1) in omega (arith, c.length_of-p.ensures.is)

pub loop-p-preserved : goal.loop-p-preserved
loop-p-preserved c =
    test_on {I = Unit} (λ i. of_kind c.args.kind) c.loop-p.invariant (omega arith) (λ i. kind_agrees c.kind_of.ensures (omega arith)) _ c.length_of-p.ensures.is

pub returns : goal.returns
returns c = λ vs h. test_end {I = Unit} (λ i. of_kind c.args.kind) c.loop-p.invariant (omega arith) tt vs h
