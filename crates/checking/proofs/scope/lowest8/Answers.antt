-- The first that breaks it.
use Rattle.std.proofs.lemmas.Iterator.{first_from_Range}
use mathlib.Core.Path.{◌≡◌}
use mathlib.Core.Bool.{true, false}
use borrow.Author.Rules.{rules}
use Rattle.tables.specs.Check.{fault8}
use Rattle.tables.specs.Accepted.{records}
use Rattle.checking.proofs.Scan.{found_in}
use Rattle.checking.proofs.scope.lowest8.Goals as goal

pub returns : goal.returns
returns c =
    let fault = fault8 (records c.args.sheet.now) in
    found_in fault c.args.count c.find.result
    (first_from_Range _ _ _ _ (λ r. true ≡ fault r) (λ r. false ≡ fault r) c.find.ensures.ran (λ r q k. search rules) (λ r q k. (search rules, search rules)))
