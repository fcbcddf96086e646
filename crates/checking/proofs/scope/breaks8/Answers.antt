-- The bits of the pattern and of what is around say it.
use Rattle.checking.proofs.Faults.{let_be8, let8, other8, plain8, let_operand}
use Rattle.tables.specs.Sheet.{pattern_of}
use Rattle.checking.proofs.Bits.{around_condition, held_loose}
use Rattle.checking.specs.Scopes.{has_bit}
use Rattle.tables.specs.Accepted.{records}
use Rattle.tables.proofs.Laws.Accepted.{fit_records}
use Rattle.tables.specs.Table.{record_at}
use Prim.Native.Nat.{ℕ}
use native.Mathlib.Omega.{arith}
use mathlib.Core.Path.{sym, ap, ◌∙◌}
use Rattle.checking.proofs.scope.breaks8.Goals as goal

pub offset_bounds-above-r : goal.offset_bounds-above-r
offset_bounds-above-r c = omega (arith, c.requires.here.within, c.requires.here.few)

pub bounds-above-r : goal.bounds-above-r
bounds-above-r c = omega (arith, c.requires.here.within, c.requires.here.few)

pub has-requires : goal.has-requires
has-requires c = omega arith

pub returns-then-k-eq-LET_BE : goal.returns-then-k-eq-LET_BE
returns-then-k-eq-LET_BE c =
    let_be8 (records c.args.sheet.now) c.args.r c.has.result (sym c.kind-k.ensures.0 ∙ c.if-k-eq-LET_BE.true) (c.has.ensures ∙ ap (λ (m : ℕ). has_bit m 0) (c.requires.around.is c.args.r c.requires.here.within (omega arith)) ∙ around_condition (records c.args.sheet.now) c.args.r)

pub returns-then-k-ne-LET : goal.returns-then-k-ne-LET
returns-then-k-ne-LET c =
    other8 (records c.args.sheet.now) c.args.r (λ e. c.if-k-eq-LET_BE.false (c.kind-k.ensures.0 ∙ e)) (λ e. c.if-k-ne-LET.true (c.kind-k.ensures.0 ∙ e))

pub pattern_bits-requires : goal.pattern_bits-requires
pattern_bits-requires c =
    record { operand = record { here = c.requires.here; has = let_operand (record_at (records c.args.sheet.now) c.args.r) (fit_records c.args.sheet.now c.args.r c.requires.here.within) (sym c.kind-k.ensures.0 ∙ c.if-k-ne-LET.false) }; clear = c.requires.clear; below = c.requires.below }

pub returns-then-has : goal.returns-then-has
returns-then-has c =
    let8 (records c.args.sheet.now) c.args.r c.has-then-has.result (sym c.kind-k.ensures.0 ∙ c.if-k-ne-LET.false) (sym (c.has-2.ensures ∙ ap (λ (m : ℕ). has_bit m 1) c.pattern_bits.ensures ∙ held_loose (records c.args.sheet.now) (pattern_of (records c.args.sheet.now) c.args.r)) ∙ c.if-has.true) (c.has-then-has.ensures ∙ ap (λ (m : ℕ). has_bit m 0) (c.requires.around.is c.args.r c.requires.here.within (omega arith)) ∙ around_condition (records c.args.sheet.now) c.args.r)

pub returns-else-has : goal.returns-else-has
returns-else-has c =
    c.if-has.false
    ∙ plain8 (records c.args.sheet.now) c.args.r (sym c.kind-k.ensures.0 ∙ c.if-k-ne-LET.false) (sym (c.has-2.ensures ∙ ap (λ (m : ℕ). has_bit m 1) c.pattern_bits.ensures ∙ held_loose (records c.args.sheet.now) (pattern_of (records c.args.sheet.now) c.args.r)) ∙ c.if-has.false)
