-- `put_number` meets its contract: a number is written; that a refusal is passed up `gives_off` says, which its code names.
use Rattle.calling.proofs.Pairs.{number_range, number_gives}
use borrow.Author.Rules.{rules}
use Rattle.calling.proofs.put_number.Goals as goal

pub put_integer-requires : goal.put_integer-requires
put_integer-requires c = (search rules, number_range c.in_ok-n.was c.requires.1)

pub returns : goal.returns
returns c = number_gives c.in_ok-n.was c.requires.1 c.put_integer.ensures
