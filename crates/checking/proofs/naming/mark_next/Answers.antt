-- What is found stays, and only the marks go on.
use mathlib.Core.Path.{sym, ◌∙◌}
use Rattle.checking.proofs.Marks.{next_found, next_marked}
use Rattle.checking.proofs.naming.mark_next.Goals as goal

pub mark_named-requires : goal.mark_named-requires
mark_named-requires c = c.requires.ask

pub returns-then-is_some : goal.returns-then-is_some
returns-then-is_some c = next_found c.args.sheet.now _ c.args.low c.args.r c.requires.is (sym c.is_some.ensures ∙ c.if-is_some.true) c.mark_named.ensures

pub mark_operands-requires : goal.mark_operands-requires
mark_operands-requires c = c.requires.ask

pub returns : goal.returns
returns c =
    rw c.then_some.ensures (next_marked c.args.sheet.now _ c.args.low c.args.r c.mark_operands.result c.requires.is (sym c.is_some.ensures ∙ c.if-is_some.false) c.mark_operands.ensures)
