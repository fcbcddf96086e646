-- `put_cut` meets its contract: the last line of a print that is cut.
use Rattle.print.proofs.Writing.{wrote_then}
use Rattle.print.proofs.put_cut.Goals as goal

pub returns : goal.returns
returns c = wrote_then c.put_bytes-start.ensures c.put_count.ensures
