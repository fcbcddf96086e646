-- The pattern is lower.
use Rattle.checking.specs.Scopes.{bits_below}
use Rattle.tables.specs.Accepted.{records}
use Rattle.tables.proofs.Laws.Accepted.{operand_lower}
use native.Mathlib.Omega.{arith}
use mathlib.Core.Path.{ap, ◌∙◌}
use Rattle.checking.proofs.scope.pattern_bits.Goals as goal

pub offset_bounds-below-operand : goal.offset_bounds-below-operand
offset_bounds-below-operand c = omega (arith, c.operand.ensures.1)

pub bounds-below-operand : goal.bounds-below-operand
bounds-below-operand c =
    omega (arith, c.operand.ensures.0, operand_lower (records c.args.sheet.now) c.requires.clear c.args.q 0 c.requires.operand.here.within c.requires.operand.has, c.requires.operand.here.within, c.requires.operand.here.few)

pub returns : goal.returns
returns c =
    c.requires.below.is c.operand.result (omega (arith, c.operand.ensures.0, operand_lower (records c.args.sheet.now) c.requires.clear c.args.q 0 c.requires.operand.here.within c.requires.operand.has, c.requires.operand.here.within)) ∙ ap (bits_below (records c.args.sheet.now)) c.operand.ensures.0
