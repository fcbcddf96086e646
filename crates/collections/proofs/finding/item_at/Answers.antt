-- `collections::finding::item_at` meets its contract: the item looked for is, of those left, the one that is `left` items on.
use mathlib.Core.Path.{refl, ap, ◌∙◌}
use Prim.Native.Nat.{ℕ, ◌+◌}
use native.Mathlib.Omega.{arith}
use Rattle.values.proofs.Records.{holds}
use Rattle.collections.proofs.Walks.{walk_start, walk_run, walk_step, nth_on, item_found, item_missing}
use Rattle.collections.proofs.finding.item_at.Goals as goal

pub length_of-requires : goal.length_of-requires
length_of-requires c = holds c.requires.here

pub overflow_add-end : goal.overflow_add-end
overflow_add-end c = let h = holds c.requires.here in omega arith

pub overflow_add-p : goal.overflow_add-p
overflow_add-p c = let h = holds c.requires.here in omega arith

pub loop-p-init : goal.loop-p-init
loop-p-init c = (ap (λ (n : ℕ). c.args.at + n) c.length_of.ensures.is, walk_start (λ vs. refl))

pub returns-then-left-eq0 : goal.returns-then-left-eq0
returns-then-left-eq0 c = item_found _ _ c.loop-p.invariant.1 (omega arith) c.if-left-eq0.true

pub overflow_sub-left : goal.overflow_sub-left
overflow_sub-left c = omega arith

pub length_of-p-requires : goal.length_of-p-requires
length_of-p-requires c = holds (walk_run c.loop-p.invariant.1 (omega arith) c.requires).first-at

pub overflow_add-p-in-loop-p : goal.overflow_add-p-in-loop-p
overflow_add-p-in-loop-p c =
    let at_loop = c in
    let start = at_loop in
    let y = walk_run at_loop.loop-p.invariant.1 (omega arith) start.requires in let h = holds start.requires.here in omega (arith, c.length_of-p.ensures.is)

pub loop-p-smaller : goal.loop-p-smaller
loop-p-smaller c =
    let y = walk_run c.loop-p.invariant.1 (omega arith) c.requires in omega (arith, c.length_of-p.ensures.is)

pub loop-p-preserved : goal.loop-p-preserved
loop-p-preserved c =
    let branch = c in
    let at_loop = branch in
    (at_loop.loop-p.invariant.0, walk_step at_loop.loop-p.invariant.1 (omega arith) (λ vs ws v h e. e ∙ nth_on v ws _ branch.if-left-eq0.false) _ c.length_of-p.ensures.is)

pub returns : goal.returns
returns c = item_missing _ _ c.loop-p.invariant.1 (omega arith)
