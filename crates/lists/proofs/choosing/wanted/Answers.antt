use borrow.Author.Rules.{rules}
use borrow.Author.Tests.{ne_eqb}
use mathlib.Core.Path.{refl, sym, ◌∙◌}
use Rattle.lists.proofs.Lending.{due_left, due_none}
use Rattle.lists.proofs.choosing.wanted.Goals as goal

pub returns-then-k-ne-LET_BE : goal.returns-then-k-ne-LET_BE
returns-then-k-ne-LET_BE c = rw (ne_eqb c.args.k 13 (search rules)) refl

pub returns-then-used-len : goal.returns-then-used-len
returns-then-used-len c =
    (rw c.from-used.ensures at c.from.ensures) ∙ sym (due_left c.args.run.now c.requires c.args.k (search rules) (search rules))

pub returns : goal.returns
returns c = sym (due_none c.args.run.now c.requires c.args.k (search rules) (search rules))
