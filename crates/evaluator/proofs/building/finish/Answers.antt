use mathlib.Core.Path.{sym, ◌∙◌}
use native.Mathlib.Omega.{arith}
use Rattle.std.proofs.lemmas.Result.{err_from_is_err_and}
use Rattle.evaluator.proofs.Simple.{finish_off, finish_still, finish_value, finish_held, finish_tuple}
use Rattle.evaluator.proofs.building.finish.Goals as goal

pub at_record-requires : goal.at_record-requires
at_record-requires c = c.requires.place

pub returns-in_err-at_record : goal.returns-in_err-at_record
returns-in_err-at_record c = let p = err_from_is_err_and c.from_residual.result c.from_residual.ensures.1 in rw (p.1, p.2) (finish_off (sym c.in_err-at_record.was ∙ c.at_record.ensures))

pub retag-requires : goal.retag-requires
retag-requires c = (finish_held c.requires (finish_still c.args.so_far c.args.r (sym c.at_record.ensures ∙ c.in_ok-at_record.was)), omega arith)

pub returns-then-k-eq-TUPLE : goal.returns-then-k-eq-TUPLE
returns-then-k-eq-TUPLE c = finish_tuple (finish_still c.args.so_far c.args.r (sym c.at_record.ensures ∙ c.in_ok-at_record.was)) c.if-k-eq-TUPLE.true c.retag.ensures

pub returns-else-k-eq-TUPLE : goal.returns-else-k-eq-TUPLE
returns-else-k-eq-TUPLE c = finish_value (finish_still c.args.so_far c.args.r (sym c.at_record.ensures ∙ c.in_ok-at_record.was)) c.if-k-eq-TUPLE.false
