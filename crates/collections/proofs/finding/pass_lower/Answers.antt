-- `collections::finding::pass_lower` meets its contract: what is found from here on is what is found from the start on.
use mir.Syntax.{w32}
use mathlib.Core.Path.{sym, ap, ◌∙◌}
use Prim.Native.Nat.{ℕ, ◌+◌}
use native.Mathlib.Omega.{arith}
use mir.Facts.{to_z-of_z}
use Rattle.values.proofs.Records.{holds}
use Rattle.collections.proofs.Walks.{walk_run}
use Rattle.collections.proofs.Looking.{look_start, look_higher, integer_inside, looks_on, not_le}
use Rattle.collections.proofs.finding.pass_lower.Goals as goal

pub length_of-requires : goal.length_of-requires
length_of-requires c = holds c.requires.0.here

pub overflow_add-end : goal.overflow_add-end
overflow_add-end c = let h = holds c.requires.0.here in omega arith

pub integer_at-z-requires : goal.integer_at-z-requires
integer_at-z-requires c = c.requires.1

pub overflow_add-p : goal.overflow_add-p
overflow_add-p c = let h = holds c.requires.0.here in omega arith

pub loop-p-init : goal.loop-p-init
loop-p-init c = (ap (λ (n : ℕ). c.args.at + n) c.length_of.ensures.is, look_start _ _ _ _)

pub kind_of-requires : goal.kind_of-requires
kind_of-requires c =
    holds (walk_run c.loop-p.invariant.1 (omega (arith, c.loop-p-test.true, c.loop-p.invariant.0)) c.requires.0).first-at

pub returns-then-kind_of-ne-INTEGER : goal.returns-then-kind_of-ne-INTEGER
returns-then-kind_of-ne-INTEGER c = looks_on c.loop-p.invariant.1

pub integer_at-y-requires : goal.integer_at-y-requires
integer_at-y-requires c =
    record { held = holds (walk_run c.loop-p.invariant.1 (omega (arith, c.loop-p-test.true, c.loop-p.invariant.0)) c.requires.0).first-at; kind = sym c.kind_of.ensures.is ∙ c.if-kind_of-ne-INTEGER.false }

pub returns-then-is_le : goal.returns-then-is_le
returns-then-is_le c = looks_on c.loop-p.invariant.1

pub overflow_add-p-in-loop-p : goal.overflow_add-p-in-loop-p
overflow_add-p-in-loop-p c =
    let h = holds c.requires.0.here in omega (arith, integer_inside c.requires.0 c.loop-p.invariant.1 (omega (arith, c.loop-p-test.true, c.loop-p.invariant.0)) c.integer_at-y.ensures, h.whole)

pub loop-p-smaller : goal.loop-p-smaller
loop-p-smaller c = omega (arith, c.loop-p-test.true)

pub loop-p-preserved : goal.loop-p-preserved
loop-p-preserved c =
    (c.loop-p.invariant.0, look_higher c.loop-p.invariant.1 (omega (arith, c.loop-p-test.true, c.loop-p.invariant.0)) c.integer_at-z.ensures c.integer_at-y.ensures (to_z-of_z {w = w32} (record { sfits = c.integer_at-z.type_inv })) (to_z-of_z {w = w32} (record { sfits = c.integer_at-y.type_inv })) c.compare.ensures (not_le (sym c.is_le.ensures ∙ c.if-is_le.false)))

pub returns : goal.returns
returns c = looks_on c.loop-p.invariant.1
