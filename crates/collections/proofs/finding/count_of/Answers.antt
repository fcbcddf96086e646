-- `collections::finding::count_of` meets its contract: what is counted and what is left are all.
use mathlib.Core.Path.{ap}
use Prim.Native.Nat.{ℕ, ◌+◌}
use native.Mathlib.Omega.{arith}
use Rattle.values.specs.Value.{count}
use Rattle.values.proofs.Records.{holds}
use Rattle.collections.proofs.Walks.{walk_start, walk_run, walk_step, walk_end}
use Rattle.collections.proofs.finding.count_of.Goals as goal

pub length_of-requires : goal.length_of-requires
length_of-requires c = holds c.requires.here

pub overflow_add-end : goal.overflow_add-end
overflow_add-end c = let h = holds c.requires.here in omega arith

pub overflow_add-p : goal.overflow_add-p
overflow_add-p c = let h = holds c.requires.here in omega arith

pub loop-p-init : goal.loop-p-init
loop-p-init c = (ap (λ (n : ℕ). c.args.at + n) c.length_of.ensures.is, omega arith, walk_start (λ vs. omega arith))

pub overflow_add-n : goal.overflow_add-n
overflow_add-n c = omega arith

pub length_of-p-requires : goal.length_of-p-requires
length_of-p-requires c = holds (walk_run c.loop-p.invariant.2 (omega arith) c.requires).first-at

pub overflow_add-p-in-loop-p : goal.overflow_add-p-in-loop-p
overflow_add-p-in-loop-p c =
    let at_loop = c in
    let start = at_loop in
    let y = walk_run at_loop.loop-p.invariant.2 (omega arith) start.requires in let h = holds start.requires.here in omega (arith, c.length_of-p.ensures.is)

pub loop-p-smaller : goal.loop-p-smaller
loop-p-smaller c =
    let y = walk_run c.loop-p.invariant.2 (omega arith) c.requires in omega (arith, c.length_of-p.ensures.is)

pub loop-p-preserved : goal.loop-p-preserved
unfolding count
loop-p-preserved c = (
  c.loop-p.invariant.0,
  omega (arith, c.length_of-p.ensures.low),
  walk_step c.loop-p.invariant.2 (omega arith) (λ vs ws v h e. omega arith) _ c.length_of-p.ensures.is,
)

pub returns : goal.returns
unfolding count
returns c = λ kind vs h. let e = walk_end c.loop-p.invariant.2 (omega arith) kind vs h in omega arith
