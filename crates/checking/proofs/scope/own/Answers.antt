-- By kind.
use Rattle.checking.proofs.Below.{name_pattern, own_name, own_loose, own_none}
use Rattle.tables.specs.Accepted.{records}
use Rattle.tables.proofs.Laws.Accepted.{fit_records}
use Rattle.tables.specs.Table.{record_at}
use native.Mathlib.Omega.{arith}
use mathlib.Core.Path.{sym, ap, ◌∙◌}
use Prim.Native.Nat.{ℕ}
use Rattle.tables.specs.Record.{shape}
use Rattle.checking.proofs.scope.own.Goals as goal

pub bit-requires : goal.bit-requires
bit-requires c =
    omega (arith, (name_pattern (record_at (records c.args.sheet.now) c.args.r) (fit_records c.args.sheet.now c.args.r c.requires.within) (sym c.kind-k.ensures.0 ∙ c.if-k-eq-NAME_PATTERN.true)).low, c.field.ensures.0)

pub returns-then-k-eq-NAME_PATTERN : goal.returns-then-k-eq-NAME_PATTERN
returns-then-k-eq-NAME_PATTERN c =
    c.bit.ensures ∙ own_name (record_at (records c.args.sheet.now) c.args.r) c.field.result (sym c.kind-k.ensures.0 ∙ c.if-k-eq-NAME_PATTERN.true) c.field.ensures.0

pub returns-then-is_loose : goal.returns-then-is_loose
returns-then-is_loose c =
    own_loose (record_at (records c.args.sheet.now) c.args.r) (λ e. c.if-k-eq-NAME_PATTERN.false (c.kind-k.ensures.0 ∙ e)) (ap (λ (k : ℕ). (shape k).loose) (sym c.kind-k.ensures.0) ∙ sym c.is_loose.ensures ∙ c.if-is_loose.true)

pub returns : goal.returns
returns c =
    own_none (record_at (records c.args.sheet.now) c.args.r) (λ e. c.if-k-eq-NAME_PATTERN.false (c.kind-k.ensures.0 ∙ e)) (ap (λ (k : ℕ). (shape k).loose) (sym c.kind-k.ensures.0) ∙ sym c.is_loose.ensures ∙ c.if-is_loose.false)

pub field-requires : goal.field-requires
field-requires c =
    record { here = c.requires.within; has = (name_pattern (record_at (records c.args.sheet.now) c.args.r) (fit_records c.args.sheet.now c.args.r c.requires.within) (sym c.kind-k.ensures.0 ∙ c.if-k-eq-NAME_PATTERN.true)).has }
