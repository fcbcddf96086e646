-- The first that is a stray.
use Rattle.std.proofs.lemmas.Iterator.{first_from_Range}
use mathlib.Core.Path.{◌≡◌}
use mathlib.Core.Bool.{true, false}
use borrow.Author.Rules.{rules}
use Rattle.tables.specs.Check.{is_stray}
use Rattle.tables.specs.Accepted.{records}
use Rattle.checking.proofs.Scan.{found_in}
use Rattle.checking.proofs.naming.lowest_stray.Goals as goal

pub returns : goal.returns
returns c =
    let stray = is_stray (records c.args.sheet.now) in
    found_in stray c.args.end c.find.result
    (first_from_Range _ _ _ _ (λ r. true ≡ stray r) (λ r. false ≡ stray r) c.find.ensures.ran (λ r q k. search rules) (λ r q k. (search rules, search rules)))
