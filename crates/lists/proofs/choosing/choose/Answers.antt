use borrow.Author.Rules.{rules}
use Rattle.lists.proofs.Lending.{lent_many, lent_beyond, lent_short, lent_chosen, lent_extended}
use Rattle.lists.proofs.choosing.choose.Goals as goal

pub returns-then-used-ge-LIMIT : goal.returns-then-used-ge-LIMIT
returns-then-used-ge-LIMIT c = lent_many c.args.run.now c.requires.0 c.args.n (search rules)

pub returns-then-n-entry : goal.returns-then-n-entry
returns-then-n-entry c =
    let entry = rw c.from-used.ensures at c.from-entry.ensures in
    lent_beyond c.args.run.now c.requires.0 c.args.n (search rules) (search rules) (search rules)

pub returns-then-used-len : goal.returns-then-used-len
returns-then-used-len c =
    rw c.from-used.ensures
    (lent_chosen c.args.run.now c.requires.0 c.args.n (search rules) (search rules) (rw c.from-used.ensures at c.from-entry.ensures) (search rules))

pub returns-then-run-eq1 : goal.returns-then-run-eq1
returns-then-run-eq1 c =
    rw c.from-used.ensures (lent_extended c.args.run.now c.requires.0 c.args.n (search rules) (search rules) (search rules))

pub returns : goal.returns
returns c = lent_short c.args.run.now c.requires.0 c.args.n (search rules) (search rules) (search rules)
