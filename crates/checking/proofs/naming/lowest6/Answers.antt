-- The lower of the two.
use mathlib.Core.Path.{sym, ap, ◌∙◌}
use native.Mathlib.Omega.{arith}
use Rattle.tables.specs.Check.{has_bad, is_stray}
use Rattle.tables.specs.Accepted.{records}
use Rattle.checking.specs.Answer.{found}
use Rattle.checking.proofs.Scan.{found_within}
use Rattle.checking.proofs.Marks.{found_both, no_marks}
use Rattle.checking.proofs.naming.lowest6.Goals as goal

pub mark_all-bad-requires : goal.mark_all-bad-requires
mark_all-bad-requires c = record { whole = c.requires; marked = no_marks }

pub lowest_stray-requires : goal.lowest_stray-requires
lowest_stray-requires c =
    (record { whole = c.requires; marked = c.mark_all-bad.ensures.marked }, omega (arith, c.unwrap_or.ensures, found_within (has_bad (records c.args.sheet.now)) _ c.args.count c.mark_all-bad.result c.mark_all-bad.ensures.is (sym c.requires.all)))

pub returns : goal.returns
returns c =
    c.or.ensures
    ∙ found_both (records c.args.sheet.now) c.args.count c.mark_all-bad.result c.lowest_stray.result c.requires.all c.mark_all-bad.ensures.is (c.lowest_stray.ensures ∙ ap (found (is_stray (records c.args.sheet.now))) c.unwrap_or.ensures)
