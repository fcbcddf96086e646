-- `restrict_range` meets its contract.
use mathlib.Core.Path.{refl}
use Rattle.values.specs.Value.{set, map}
use Rattle.operators.specs.Operators.{binary}
use Rattle.calling.proofs.Kinding.{has_two, off_two, on_two}
use Rattle.map_operators.proofs.Restricting.{on_range, range_restrictable, range_restricted}
use Rattle.map_operators.proofs.restrict_range.Goals as goal

pub restrict-requires : goal.restrict-requires
restrict-requires c = range_restrictable (has_two map set c.requires c.kinds_are.ensures c.if-kinds_are.true)

pub returns-then-kinds_are : goal.returns-then-kinds_are
unfolding binary
returns-then-kinds_are c =
    let h = has_two map set c.requires c.kinds_are.ensures c.if-kinds_are.true in on_two (λ v w. refl) h (range_restricted h c.restrict.ensures)

pub returns : goal.returns
unfolding binary
returns c = off_two map set {f = on_range} (λ v w. refl) c.kinds_are.ensures c.if-kinds_are.false
