-- `count_of_part`: the bits of the mask with each unit's items, or the items of its run.
use native.Mathlib.Nat.{mul-le-mul}
use native.Mathlib.Omega.{arith}
use lib.Count.{ones-le}
use Rattle.parts.proofs.Parting.{record_of, units_counted, run_held, part_counted}
use Rattle.parts.proofs.count_of_part.Goals as goal

pub kind_of-kind-requires : goal.kind_of-kind-requires
kind_of-kind-requires c = record_of (λ z. cc (c.in-Units.is)) c.requires.here

pub overflow_cast-result : goal.overflow_cast-result
overflow_cast-result c = omega (arith, ones-le 64 c.args.p.extent (omega arith))

pub overflow_mul-result : goal.overflow_mul-result
overflow_mul-result c = omega (arith, mul-le-mul (ones-le 64 c.args.p.extent (omega arith)) c.width.ensures.2)

pub returns-in-Units : goal.returns-in-Units
returns-in-Units c = units_counted c.in-Units.is c.kind_of-kind.ensures c.width.ensures.0

pub count-requires : goal.count-requires
count-requires c = run_held c.requires c.run_of-r.ensures

pub returns : goal.returns
returns c = part_counted c.run_of-r.ensures c.count.ensures
