-- `put_end` meets its contract: the last line.
use Rattle.print.proofs.Writing.{wrote_then}
use Rattle.print.proofs.put_end.Goals as goal

pub returns : goal.returns
returns c = wrote_then c.put_bytes-start.ensures c.put_count.ensures
