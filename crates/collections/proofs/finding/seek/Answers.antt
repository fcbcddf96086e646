-- `collections::finding::seek` meets its contract: what is found from here on is what is found from the start on.
use mathlib.Core.Path.{sym, ap, subst}
use mathlib.Core.Bool.{Bool}
use Prim.Native.Nat.{ℕ, ◌+◌, ◌<◌}
use native.Mathlib.Omega.{arith}
use Rattle.integers.specs.Bytes.{word}
use Rattle.std.specs.declared.cmp.Ordering.{Ordering}
use Rattle.values.specs.Items.{in_order}
use Rattle.values.proofs.Records.{holds}
use Rattle.std.specs.Prelude.{Ok, Err}
use Rattle.collections.proofs.Walks.{walk_run}
use Rattle.collections.proofs.Looking.{Looking, looked, look_end, look-here, look_on, look_past}
use Rattle.collections.proofs.finding.seek.Goals as goal
use Rattle.collections.proofs.finding.seek.Goals.{then-key+in-Greater, else-key}

pub length_of-requires : goal.length_of-requires
length_of-requires c = holds c.requires.0.here

pub overflow_add-end : goal.overflow_add-end
overflow_add-end c = let h = holds c.requires.0.here in omega arith

pub start-p-requires : goal.start-p-requires
start-p-requires c = c.requires

pub loop-p-init : goal.loop-p-init
loop-p-init c = (ap (λ (n : ℕ). c.args.at + n) c.length_of.ensures.is, looked c.start-p.ensures)

pub compare-requires : goal.compare-requires
compare-requires c =
    (c.requires.1, holds (walk_run c.loop-p.invariant.1 (omega (arith, c.loop-p-test.true, c.loop-p.invariant.0)) c.requires.0).first-at)

pub returns-in-Less : goal.returns-in-Less
returns-in-Less c =
    look-here _ _ _ _ _ _ c.loop-p.invariant.1 (omega (arith, c.loop-p-test.true, c.loop-p.invariant.0)) c.if-key.true _ c.compare.ensures _ (λ q. ap (λ (o : Ordering). in_order o (Err c.loop-p.p) (Ok c.loop-p.p) q) c.in-Less.is)

pub returns-in-Equal : goal.returns-in-Equal
returns-in-Equal c =
    look-here _ _ _ _ _ _ c.loop-p.invariant.1 (omega (arith, c.loop-p-test.true, c.loop-p.invariant.0)) c.if-key.true _ c.compare.ensures _ (λ q. ap (λ (o : Ordering). in_order o (Err c.loop-p.p) (Ok c.loop-p.p) q) c.in-Equal.is)

pub past-p-requires : goal.past-p-requires
past-p-requires c =
    holds (walk_run c.loop-p.invariant.1 (omega (arith, c.loop-p-test.true, c.loop-p.invariant.0)) c.requires.0).first-at

pub overflow_add-p : goal.overflow_add-p
overflow_add-p c =
    let y = walk_run c.loop-p.invariant.1 (omega (arith, c.loop-p-test.true, c.loop-p.invariant.0)) c.requires.0 in
    let h = holds c.requires.0.here in
    omega (arith, c.past-p.ensures.is)

pub loop-p-smaller : goal.loop-p-smaller
loop-p-smaller c =
    let y = walk_run c.loop-p.invariant.1 (omega (arith, c.loop-p-test.true, c.loop-p.invariant.0)) c.requires.0 in
    omega (arith, c.past-p.ensures.is, c.loop-p-test.true)

pub loop-p-preserved : goal.loop-p-preserved
loop-p-preserved c =
    let l = c.loop-p in
    let n = c.past-p.result in
    let e = c.past-p.ensures.is in
    let a = c.args in
    let lt : l.p < a.at + word a.s.now a.at = (omega (arith, c.loop-p-test.true, c.loop-p.invariant.0)) in
    let goal : Bool → Type 0 = λ key. Looking a.s.now a.at a.x a.entries (l.p + n) key in (
      l.invariant.0,
      elim c.if-key.branch [
        | then-key+in-Greater w ↦ subst goal (sym w.key-is) (look_on _ _ _ _ _ _ l.invariant.1 lt w.if-key.true _ w.compare.ensures w.in-Greater.is n e)
        | else-key w ↦ subst goal (sym w.key-is) (look_past _ _ _ _ _ _ l.invariant.1 lt w.if-key.false n e)
      ],
    )

pub returns : goal.returns
returns c =
    look_end _ _ _ _ _ _ c.loop-p.invariant.1 (omega (arith, c.loop-p-test.false, c.loop-p.invariant.0))
