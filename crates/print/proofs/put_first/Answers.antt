-- `put_first` meets its contract: the first line.
use Rattle.print.proofs.Writing.{wrote_then}
use Rattle.print.proofs.put_first.Goals as goal

pub returns : goal.returns
returns c = wrote_then c.put_bytes-start.ensures c.put_count.ensures
