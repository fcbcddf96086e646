-- `collections::finding::past` meets its contract.
use Rattle.collections.proofs.Looking.{integer_length}
use Rattle.collections.proofs.finding.past.Goals as goal

pub returns-then-kind_of-eq-INTEGER : goal.returns-then-kind_of-eq-INTEGER
returns-then-kind_of-eq-INTEGER c = integer_length c.requires c.kind_of.ensures c.if-kind_of-eq-INTEGER.true
