-- A byte of the number, as computed for each mask of three bits.
use mathlib.Core.Path.{refl}
use native.Mathlib.Omega.{arith}
use Rattle.parts.specs.Mask.{doubled}
use Rattle.parts.proofs.Doubling.{doubled_three, three_below}
use Rattle.parts.proofs.masks.twice.Goals as goal

pub returns : goal.returns
unfolding doubled
returns c =
    let e = doubled_three _ refl c.args.m c.requires in (e, omega (arith, e, three_below c.args.m c.requires))
