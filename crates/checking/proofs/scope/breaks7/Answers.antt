-- The bit of the name says whether it is bound.
use Rattle.checking.proofs.Faults.{read7, pattern7, other7}
use Rattle.checking.proofs.Below.{name_pattern, name_read}
use Rattle.checking.proofs.Bits.{around_name}
use Rattle.checking.specs.Scopes.{has_bit, around}
use Rattle.tables.specs.Accepted.{records}
use Rattle.tables.proofs.Laws.Accepted.{fit_records}
use Rattle.tables.specs.Table.{record_at}
use Rattle.tables.specs.Record.{name_of}
use Prim.Native.Nat.{ℕ, ◌+◌}
use native.Mathlib.Omega.{arith}
use mathlib.Core.Path.{sym, ap, ◌∙◌}
use Rattle.checking.proofs.scope.breaks7.Goals as goal

pub offset_bounds-above-r : goal.offset_bounds-above-r
offset_bounds-above-r c = omega (arith, c.requires.here.within, c.requires.here.few)

pub bounds-above-r : goal.bounds-above-r
bounds-above-r c = omega (arith, c.requires.here.within, c.requires.here.few)

pub overflow_add-field : goal.overflow_add-field
overflow_add-field c = omega (arith, c.field.ensures.1)

pub has-requires : goal.has-requires
has-requires c =
    omega (arith, (name_read (record_at (records c.args.sheet.now) c.args.r) (fit_records c.args.sheet.now c.args.r c.requires.here.within) (sym c.kind-k.ensures.0 ∙ c.if-k-eq-NAME.true)).low, c.field.ensures.0)

pub returns-then-k-eq-NAME : goal.returns-then-k-eq-NAME
returns-then-k-eq-NAME c =
    read7 (records c.args.sheet.now) c.args.r c.has.result (sym c.kind-k.ensures.0 ∙ c.if-k-eq-NAME.true) (c.has.ensures ∙ ap (λ (m : ℕ). has_bit m (c.field.result + 2)) (c.requires.around.is c.args.r c.requires.here.within (omega arith)) ∙ ap (λ (n : ℕ). has_bit (around (records c.args.sheet.now) c.args.r) (n + 2)) c.field.ensures.0 ∙ around_name (records c.args.sheet.now) c.args.r (name_of (record_at (records c.args.sheet.now) c.args.r)))

pub offset_bounds-above-r-then-k-eq-NAME_PATTERN : goal.offset_bounds-above-r-then-k-eq-NAME_PATTERN
offset_bounds-above-r-then-k-eq-NAME_PATTERN c = omega (arith, c.requires.here.within, c.requires.here.few)

pub bounds-above-r-then-k-eq-NAME_PATTERN : goal.bounds-above-r-then-k-eq-NAME_PATTERN
bounds-above-r-then-k-eq-NAME_PATTERN c = omega (arith, c.requires.here.within, c.requires.here.few)

pub overflow_add-field-then-k-eq-NAME_PATTERN : goal.overflow_add-field-then-k-eq-NAME_PATTERN
overflow_add-field-then-k-eq-NAME_PATTERN c = omega (arith, c.field-then-k-eq-NAME_PATTERN.ensures.1)

pub has-requires-then-k-eq-NAME_PATTERN : goal.has-requires-then-k-eq-NAME_PATTERN
has-requires-then-k-eq-NAME_PATTERN c =
    omega (arith, (name_pattern (record_at (records c.args.sheet.now) c.args.r) (fit_records c.args.sheet.now c.args.r c.requires.here.within) (sym c.kind-k.ensures.0 ∙ c.if-k-eq-NAME_PATTERN.true)).low, c.field-then-k-eq-NAME_PATTERN.ensures.0)

pub returns-then-k-eq-NAME_PATTERN : goal.returns-then-k-eq-NAME_PATTERN
returns-then-k-eq-NAME_PATTERN c =
    pattern7 (records c.args.sheet.now) c.args.r c.has-then-k-eq-NAME_PATTERN.result (sym c.kind-k.ensures.0 ∙ c.if-k-eq-NAME_PATTERN.true) (c.has-then-k-eq-NAME_PATTERN.ensures ∙ ap (λ (m : ℕ). has_bit m (c.field-then-k-eq-NAME_PATTERN.result + 2)) (c.requires.around.is c.args.r c.requires.here.within (omega arith)) ∙ ap (λ (n : ℕ). has_bit (around (records c.args.sheet.now) c.args.r) (n + 2)) c.field-then-k-eq-NAME_PATTERN.ensures.0 ∙ around_name (records c.args.sheet.now) c.args.r (name_of (record_at (records c.args.sheet.now) c.args.r)))

pub returns : goal.returns
returns c =
    other7 (records c.args.sheet.now) c.args.r (λ e. c.if-k-eq-NAME.false (c.kind-k.ensures.0 ∙ e)) (λ e. c.if-k-eq-NAME_PATTERN.false (c.kind-k.ensures.0 ∙ e))

pub field-requires : goal.field-requires
field-requires c =
    record { here = c.requires.here.within; has = (name_read (record_at (records c.args.sheet.now) c.args.r) (fit_records c.args.sheet.now c.args.r c.requires.here.within) (sym c.kind-k.ensures.0 ∙ c.if-k-eq-NAME.true)).has }

pub field-requires-then-k-eq-NAME_PATTERN : goal.field-requires-then-k-eq-NAME_PATTERN
field-requires-then-k-eq-NAME_PATTERN c =
    record { here = c.requires.here.within; has = (name_pattern (record_at (records c.args.sheet.now) c.args.r) (fit_records c.args.sheet.now c.args.r c.requires.here.within) (sym c.kind-k.ensures.0 ∙ c.if-k-eq-NAME_PATTERN.true)).has }
