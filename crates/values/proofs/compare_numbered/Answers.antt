-- `compare_numbered` meets its contract.
use Rattle.values.proofs.Ordering.{by_numbers}
use Rattle.values.proofs.compare_numbered.Goals as goal

pub number_at-x-requires : goal.number_at-x-requires
number_at-x-requires c = (c.requires.0.first, c.requires.1)

pub number_at-y-requires : goal.number_at-y-requires
number_at-y-requires c = (c.requires.0.second, c.requires.1)

pub returns : goal.returns
returns c =
    by_numbers _ c.requires.0 c.requires.1 c.number_at-x.ensures c.number_at-y.ensures c.compare_numbers.ensures
