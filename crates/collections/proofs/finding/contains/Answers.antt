-- `collections::finding::contains` meets its contract.
use Rattle.collections.proofs.Sights.{contained}
use Rattle.collections.proofs.finding.contains.Goals as goal

pub returns : goal.returns
returns c = rw c.is_ok.ensures.value (contained c.seek.ensures)
