-- `boolean_at` meets its contract. The byte there is that of the one boolean that stands there.
use native.Mathlib.Omega.{arith}
use Rattle.values.proofs.Reading.{boolean_room, boolean_here}
use Rattle.values.proofs.boolean_at.Goals as goal

pub bounds-s-at : goal.bounds-s-at
bounds-s-at c = omega (arith, boolean_room c.requires.held c.requires.kind)

pub returns : goal.returns
returns c = boolean_here c.requires.held c.requires.kind
