-- Whether p is lower.
use borrow.Author.Tests.{lt-ltb, le-ltb}
use Rattle.checking.proofs.sweep.names_of.Goals as goal

pub returns-then-r-p : goal.returns-then-r-p
returns-then-r-p c = rw (le-ltb c.args.p c.args.r c.if-r-p.true)

pub returns : goal.returns
returns c = rw (lt-ltb c.args.p c.args.r c.if-r-p.false)
