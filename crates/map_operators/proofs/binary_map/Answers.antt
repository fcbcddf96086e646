-- `binary_map` meets its contract, by what it calls.
use native.Mathlib.Omega.{arith}
use Rattle.calling.proofs.Numbered.{binary_as}
use Rattle.map_operators.proofs.Numbered.{is_range_restriction}
use Rattle.map_operators.proofs.binary_map.Goals as goal

pub returns-in-25 : goal.returns-in-25
returns-in-25 c = binary_as _ c.in-25.is c.merge.ensures

pub returns-in-26 : goal.returns-in-26
returns-in-26 c = binary_as _ c.in-26.is c.replace.ensures

pub returns-in-27 : goal.returns-in-27
returns-in-27 c = binary_as _ c.in-27.is c.restrict_domain.ensures

pub returns-in_default : goal.returns-in_default
returns-in_default c =
    binary_as _ (is_range_restriction c.requires.2 c.requires.1 (omega arith) (omega arith) (omega arith)) c.restrict_range.ensures
