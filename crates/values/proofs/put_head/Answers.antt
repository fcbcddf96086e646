-- `put_head` meets its contract. Two stores of two bytes are one of four.
use Rattle.values.proofs.Writing.{put_heading}
use Rattle.values.proofs.put_head.Goals as goal

pub returns : goal.returns
returns c = let a = c.args in put_heading a.s.now _ _ a.at a.n a.kind c.put16.ensures c.put16-2.ensures
