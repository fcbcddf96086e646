use Rattle.forming.proofs.Framing.{top_at}
use Rattle.forming.proofs.frames.top_of.Goals as goal

pub returns : goal.returns
returns c = top_at c.args.frames.now c.args.i
