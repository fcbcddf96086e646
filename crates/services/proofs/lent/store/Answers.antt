-- The entries, and the length.
use Rattle.services.proofs.Calls.{stored_is}
use mathlib.Core.Path.{refl}
use Rattle.services.proofs.lent.store.Goals as goal

pub returns : goal.returns
returns c = stored_is c.args.walk c.args.entries.now _ _ c.requires.0 c.put.ensures refl
