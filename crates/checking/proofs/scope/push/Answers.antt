-- The bits around the record stand, and go on to the operands below i.
use Rattle.checking.proofs.Above.{push_start, own_around, push_more, push_end}
use Rattle.checking.specs.Scopes.{or_bits, around}
use Rattle.tables.specs.Accepted.{records}
use Rattle.tables.proofs.Laws.Accepted.{operand_lower}
use Prim.Native.Nat.{ℕ}
use native.Mathlib.Omega.{arith}
use mathlib.Core.Path.{refl, ap, ◌∙◌}
use Rattle.checking.proofs.scope.push.Goals as goal

pub offset_bounds-above-q : goal.offset_bounds-above-q
offset_bounds-above-q c = omega (arith, c.requires.here.within, c.requires.here.few)

pub bounds-above-q : goal.bounds-above-q
bounds-above-q c = omega (arith, c.requires.here.within, c.requires.here.few)

pub loop-i-init : goal.loop-i-init
loop-i-init c = push_start (records c.args.sheet.now) c.requires.clear c.args.q c.args.above.now c.requires.around

pub given-requires : goal.given-requires
given-requires c =
    record { operand = record { here = c.requires.here; has = omega (arith, c.loop-i-test.true, c.operand_count-count.ensures.0) }; clear = c.requires.clear; below = c.requires.below }

pub offset_bounds-above-operand : goal.offset_bounds-above-operand
offset_bounds-above-operand c = omega (arith, c.operand.ensures.1)

pub bounds-above-operand : goal.bounds-above-operand
bounds-above-operand c =
    omega (arith, c.operand.ensures.0, operand_lower (records c.args.sheet.now) c.requires.clear c.args.q c.loop-i.i c.requires.here.within (omega (arith, c.loop-i-test.true, c.operand_count-count.ensures.0)), c.requires.here.within, c.requires.here.few)

pub loop-i-preserved : goal.loop-i-preserved
loop-i-preserved c =
    push_more (records c.args.sheet.now) c.requires.clear c.args.q c.loop-i.i c.operand.result c.union.result c.loop-i.above _ c.requires.here.within c.requires.here.few (omega (arith, c.loop-i-test.true, c.operand_count-count.ensures.0)) c.loop-i.invariant c.operand.ensures.0 (c.union.ensures ∙ ap (λ (k : ℕ). or_bits k c.given.result) (own_around (records c.args.sheet.now) c.requires.clear c.args.q c.args.above.now c.requires.here.within c.requires.around) ∙ ap (or_bits (around (records c.args.sheet.now) c.args.q)) c.given.ensures) refl

pub returns : goal.returns
returns c =
    push_end (records c.args.sheet.now) c.requires.clear c.args.q c.loop-i.i c.loop-i.above c.requires.here.within c.loop-i.invariant (omega (arith, c.loop-i-test.false, c.operand_count-count.ensures.0))
