use Rattle.parts.proofs.Choosing.{full_at}
use Rattle.parts.proofs.masks.full.Goals as goal

pub returns : goal.returns
returns c = full_at _ c.requires
