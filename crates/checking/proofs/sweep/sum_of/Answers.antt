-- A name comes to itself; for others, what was gathered.
use mathlib.Core.Path.{refl, sym, ◌∙◌}
use mathlib.Core.Logic.{inl}
use native.Mathlib.Omega.{arith}
use Rattle.tables.specs.Table.{record_at}
use Rattle.tables.specs.Accepted.{records}
use Rattle.checking.proofs.Below.{name_read}
use Rattle.checking.proofs.Gathering.{free_name, fit_here, leaf_sums}
use Rattle.checking.proofs.sweep.sum_of.Goals as goal

pub bit-requires : goal.bit-requires
bit-requires c =
    omega (arith, (name_read (record_at (records c.args.sheet.now) c.args.r) (fit_here c.requires.0) (sym c.requires.0.is ∙ c.if-kind-eq-NAME.true)).low, c.field.ensures.0)

pub returns-then-kind-eq-NAME : goal.returns-then-kind-eq-NAME
returns-then-kind-eq-NAME c =
    leaf_sums (records c.args.sheet.now) c.args.r c.args.left.now c.args.frees.now _ c.bit.result c.requires.0.ask.here.within (inl (omega (arith, c.requires.0.is, c.if-kind-eq-NAME.true))) c.requires.0.ask.left_is (c.bit.ensures ∙ free_name (record_at (records c.args.sheet.now) c.args.r) 0 c.field.result (sym c.requires.0.is ∙ c.if-kind-eq-NAME.true) c.field.ensures.0) refl

pub bind-requires : goal.bind-requires
bind-requires c = (c.requires.0, sym c.is_binder.ensures ∙ c.if-is_binder.true)

pub gather-requires : goal.gather-requires
gather-requires c =
    (c.requires.0, omega (arith, c.requires.1, c.if-kind-eq-NAME.false), sym c.is_binder.ensures ∙ c.if-is_binder.false)

pub field-requires : goal.field-requires
field-requires c =
    record { here = c.requires.0.ask.here.within; has = (name_read (record_at (records c.args.sheet.now) c.args.r) (fit_here c.requires.0) (sym c.requires.0.is ∙ c.if-kind-eq-NAME.true)).has }
