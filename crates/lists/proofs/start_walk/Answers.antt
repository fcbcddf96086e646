-- The entries below the length are lent.
use native.Mathlib.Omega.{arith}
use lib.ListN.{length-take}
use Rattle.lists.proofs.start_walk.Goals as goal

pub start-requires : goal.start-requires
start-requires c = simp length-take (omega (arith, c.requires.short))
