-- All records before the first that is no leaf are leaves.
use Rattle.std.proofs.lemmas.Iterator.{first_from_Range}
use mathlib.Core.Path.{◌≡◌}
use mathlib.Core.Bool.{true}
use borrow.Author.Rules.{rules}
use borrow.Author.Tests.{tests}
use Rattle.tables.specs.Record.{is_leaf}
use Rattle.tables.specs.Table.{kind_at}
use Rattle.tables.specs.Accepted.{records}
use Rattle.checking.proofs.Heights.{leaves_first}
use Rattle.checking.proofs.height.leading_leaves.Goals as goal

pub returns : goal.returns
returns c =
    let rs = records c.args.sheet.now in
    rw c.unwrap_or.ensures
    (leaves_first rs c.args.count c.find.result
    (first_from_Range _ _ _ _ (λ n. Unit {0}) (λ n. is_leaf (kind_at rs n) ≡ true) c.find.ensures.ran (λ n q k. tt) (λ n q k. (search rules, search (rules, tests)))))
