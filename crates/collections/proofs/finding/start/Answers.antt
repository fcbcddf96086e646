-- `collections::finding::start` meets its contract.
use Rattle.collections.proofs.Looking.{look_start, looks_on, among}
use Rattle.collections.proofs.finding.start.Goals as goal

pub returns-then-entries : goal.returns-then-entries
returns-then-entries c = looks_on (look_start _ _ _ _)

pub returns-then-kind_of-ne-INTEGER : goal.returns-then-kind_of-ne-INTEGER
returns-then-kind_of-ne-INTEGER c = looks_on (look_start _ _ _ _)

pub returns : goal.returns
returns c = among c.if-entries.false c.pass_lower.ensures
