-- `cut_part`: two spans that meet where the run stands after k items.
use native.Mathlib.Omega.{arith}
use Rattle.parts.proofs.Halving.{cut_held, cut_skip, cut_places, cut_is}
use Rattle.parts.proofs.cut_part.Goals as goal

pub run_of-all-requires : goal.run_of-all-requires
run_of-all-requires c = cut_held c.requires

pub skip-r-requires : goal.skip-r-requires
skip-r-requires c = cut_skip c.requires c.run_of-all.ensures

pub overflow_cast-result : goal.overflow_cast-result
overflow_cast-result c = let x = cut_places c.requires c.run_of-all.ensures c.skip-r.ensures in omega (arith, x)

pub overflow_sub-result : goal.overflow_sub-result
overflow_sub-result c = (cut_places c.requires c.run_of-all.ensures c.skip-r.ensures).0

pub overflow_cast-result-2 : goal.overflow_cast-result-2
overflow_cast-result-2 c = let x = cut_places c.requires c.run_of-all.ensures c.skip-r.ensures in omega (arith, x)

pub overflow_cast-result-3 : goal.overflow_cast-result-3
overflow_cast-result-3 c = let x = cut_places c.requires c.run_of-all.ensures c.skip-r.ensures in omega (arith, x)

pub overflow_sub-result-2 : goal.overflow_sub-result-2
overflow_sub-result-2 c = (cut_places c.requires c.run_of-all.ensures c.skip-r.ensures).1

pub overflow_cast-result-4 : goal.overflow_cast-result-4
overflow_cast-result-4 c = let x = cut_places c.requires c.run_of-all.ensures c.skip-r.ensures in omega (arith, x)

pub returns : goal.returns
returns c = cut_is c.requires c.run_of-all.ensures c.skip-r.ensures
