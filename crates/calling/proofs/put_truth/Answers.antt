-- `put_truth` meets its contract: what was written is the answer.
use Rattle.calling.proofs.Answering.{gives_put}
use Rattle.calling.proofs.put_truth.Goals as goal

pub returns : goal.returns
returns c = gives_put c.put_boolean.ensures
