-- An expression holds nothing by itself.
use mathlib.Core.Path.{sym, ap, ◌∙◌}
use Rattle.tables.specs.Record.{is_pattern}
use Rattle.tables.specs.Table.{record_at}
use Rattle.tables.specs.Accepted.{records}
use Rattle.checking.proofs.Shapes.{expression_own}
use Rattle.checking.proofs.sweep.own_of.Goals as goal

pub returns : goal.returns
returns c =
    expression_own (record_at (records c.args.sheet.now) c.args.r) (ap is_pattern (sym c.requires.1) ∙ sym c.is_pattern.ensures ∙ c.if-is_pattern.false)
