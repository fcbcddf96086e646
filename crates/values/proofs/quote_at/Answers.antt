-- `quote_at` meets its contract. The two bytes there are those of the one quote that stands there.
use native.Mathlib.Omega.{arith}
use Rattle.values.proofs.Reading.{quote_room, quote_here}
use Rattle.values.proofs.quote_at.Goals as goal

pub read16-requires : goal.read16-requires
read16-requires c = omega (arith, quote_room c.requires.held c.requires.kind)

pub returns : goal.returns
returns c = quote_here c.requires.held c.requires.kind c.read16.ensures.is
