use native.Mathlib.Omega.{arith}
use Rattle.evaluator.proofs.Tables.{field_quote, room_here}
use Rattle.evaluator.proofs.Simple.{quote_done}
use Rattle.evaluator.proofs.leaves.quote.Goals as goal

pub quote-n-requires : goal.quote-n-requires
quote-n-requires c = field_quote c.requires.0 c.requires.1

pub put_quote-requires : goal.put_quote-requires
put_quote-requires c = (omega (arith, room_here c.requires.0), c.quote-n.ensures.1)

pub returns : goal.returns
returns c = quote_done c.requires.0 c.requires.1 c.quote-n.ensures.0 c.put_quote.ensures
