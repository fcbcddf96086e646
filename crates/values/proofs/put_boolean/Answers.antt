-- `put_boolean` meets its contract.
use Rattle.values.proofs.Writing.{put_boolean}
use Rattle.values.proofs.put_boolean.Goals as goal

pub returns : goal.returns
returns c = rw c.from.ensures let a = c.args in put_boolean a.s.now _ a.at a.b c.put_head.ensures c.requires
