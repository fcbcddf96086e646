-- `is_value` meets its contract.
use native.Mathlib.Omega.{arith}
use Rattle.values.proofs.Alone.{value_long, alone_told, alone_off}
use Rattle.values.proofs.validity.is_value.Goals as goal

pub returns-then-n-gt-LIMIT : goal.returns-then-n-gt-LIMIT
returns-then-n-gt-LIMIT c = value_long c.if-n-gt-LIMIT.true

pub read16-requires : goal.read16-requires
read16-requires c = let i = c.valid.ensures.sound c.if-valid.true in let h = i.held.low in omega (arith, i.ends)

pub returns-then-valid : goal.returns-then-valid
returns-then-valid c = alone_told (c.valid.ensures.sound c.if-valid.true) c.read16.ensures

pub returns-else-valid : goal.returns-else-valid
returns-else-valid c = rw c.if-valid.false (alone_off c.valid.ensures c.if-valid.false)
