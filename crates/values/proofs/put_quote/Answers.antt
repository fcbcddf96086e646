-- `put_quote` meets its contract.
use Rattle.values.proofs.Writing.{put_quote}
use Rattle.values.proofs.put_quote.Goals as goal

pub returns : goal.returns
returns c =
    let a = c.args in
    put_quote a.s.now _ _ a.at a.n c.requires.1 c.put_head.ensures
    c.put16.ensures c.requires.0
