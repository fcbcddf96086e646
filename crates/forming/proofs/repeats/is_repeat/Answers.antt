use mathlib.Core.Path.{sym, subst}
use Prim.Native.Nat.{◌≤◌}
use native.Mathlib.Omega.{arith}
use Rattle.prelude.proofs.Absurd.{true_false}
use Rattle.tables.specs.Accepted.{records}
use Rattle.patterns.specs.Read.{Readable, pattern_at}
use Rattle.forming.specs.declared.frames.Frame.{Frame}
use Rattle.forming.specs.Rows.{SomeAgrees}
use Rattle.forming.specs.Settled.{Settled}
use Rattle.forming.proofs.repeats.is_repeat.Goals as goal

pub overflow_cast-p : goal.overflow_cast-p
overflow_cast-p c = let r = c.requires.waits in omega (arith, r.here, r.fine.few)

pub kind-k-requires : goal.kind-k-requires
kind-k-requires c = c.requires.waits.here

pub returns-then-not-splits : goal.returns-then-not-splits
returns-then-not-splits c = λ e. true_false (sym e)

pub returns-then-depth-j : goal.returns-then-depth-j
returns-then-depth-j c = λ e. true_false (sym e)

pub holds_any-requires : goal.holds_any-requires
holds_any-requires c =
    subst (λ (g : Frame). Readable c.args.sheet.now g.p) (sym c.load-f.ensures) (c.requires.readable c.lowest_matched-j.result (omega arith))

pub is_settled-requires : goal.is_settled-requires
is_settled-requires c =
    subst (λ (g : Frame). Readable c.args.sheet.now g.p) (sym c.load-f.ensures) (c.requires.readable c.lowest_matched-j.result (omega arith))

pub some_agrees-requires : goal.some_agrees-requires
some_agrees-requires c =
    subst (λ (g : Frame). g.seen ≤ 255) (sym c.load-f.ensures) (c.requires.low c.lowest_matched-j.result (omega arith))

pub returns-then-is_settled : goal.returns-then-is_settled
returns-then-is_settled c =
    λ e. record { frame = c.lowest_matched-j.result; within = omega arith; settled = subst (λ (g : Frame). Settled (pattern_at (records c.args.sheet.now) g.p) c.args.found.now) c.load-f.ensures (c.is_settled.ensures.says c.if-is_settled.true); row = subst (λ (g : Frame). SomeAgrees c.args.found.now c.args.rows.now g.since g.seen) c.load-f.ensures (c.some_agrees.ensures e) }
