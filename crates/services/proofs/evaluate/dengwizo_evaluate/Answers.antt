-- Refused, or the run; the value is handed out and the scratch cleared.
use native.Mathlib.Omega.{arith}
use mathlib.Core.Path.{sym, ◌∙◌, subst}
use mathlib.Core.List.{List}
use Prim.Native.Nat.{ℕ}
use lib.ListN.{length}
use Rattle.meaning.specs.Service.{evaluates}
use Rattle.meaning.proofs.Laws.ReadBack.{evaluate_late}
use Rattle.services.specs.Left.{Evaluated}
use Rattle.services.proofs.Admitting.{refused, granted}
use Rattle.services.proofs.Calls.{accepts, evaluate_done, evaluate_refused}
use Rattle.services.proofs.evaluate.dengwizo_evaluate.Goals as goal

pub hand_none-requires : goal.hand_none-requires
hand_none-requires c =
    λ l. ((refused (length c.args.scratch.now) (length c.args.res.now) c.args.table.now _ (sym c.admitted.ensures.answer ∙ c.in-Err.is) _ c.number-number.ensures).long l).1

pub refuse-requires : goal.refuse-requires
refuse-requires c =
    let f = refused (length c.args.scratch.now) (length c.args.res.now) c.args.table.now _ (sym c.admitted.ensures.answer ∙ c.in-Err.is) _ c.number-number.ensures in (omega (arith, f.number), omega (arith, f.place), λ l. (f.long l).0)

pub new-sheet-requires : goal.new-sheet-requires
new-sheet-requires c = c.admitted.ensures.indexed _ c.in-Ok.is

pub evaluated-outcome-requires : goal.evaluated-outcome-requires
evaluated-outcome-requires c =
    accepts c.args.table.now c.args.scratch.now (length c.args.res.now) _ (sym c.admitted.ensures.answer ∙ c.in-Ok.is) _ c.new-sheet.ensures

pub handed-answer-requires : goal.handed-answer-requires
handed-answer-requires c =
    (granted (length c.args.scratch.now) (length c.args.res.now) c.args.table.now _ (sym c.admitted.ensures.answer ∙ c.in-Ok.is)).room

pub clear-requires : goal.clear-requires
clear-requires c =
    let g = granted (length c.args.scratch.now) (length c.args.res.now) c.args.table.now _ (sym c.admitted.ensures.answer ∙ c.in-Ok.is) in omega (arith, g.enough, c.evaluated-outcome.auto.scratch)

pub returns-in-Err : goal.returns-in-Err
returns-in-Err c =
    evaluate_refused c.args.table.now c.args.scratch.now _ _ c.number-number.ensures c.refuse.result c.refuse.ensures.0 _ c.refuse.ensures.1 c.args.list.now c.args.res.now (sym c.admitted.ensures.answer ∙ c.in-Err.is) _ c.hand_none.ensures

pub returns-in-Ok : goal.returns-in-Ok
returns-in-Ok c =
    let g = granted (length c.args.scratch.now) (length c.args.res.now) c.args.table.now _ (sym c.admitted.ensures.answer ∙ c.in-Ok.is) in
    let done = subst (λ (t : List ℕ). Evaluated (evaluates (length c.args.scratch.now) (length c.args.res.now) t c.args.list.now) c.args.scratch.now c.evaluated-outcome.new.scratch c.evaluated-outcome.result) c.new-sheet.ensures (c.evaluated-outcome.ensures (length c.args.res.now) g.room) in
    evaluate_done (evaluates (length c.args.scratch.now) (length c.args.res.now) c.args.table.now c.args.list.now) c.args.scratch.now c.evaluated-outcome.new.scratch c.evaluated-outcome.result done c.args.res.now (evaluate_late (length c.args.scratch.now) c.args.table.now g.enough (length c.args.res.now) c.args.list.now g.room) c.handed-answer.result c.handed-answer.ensures.0 _ _ c.clear.ensures c.handed-answer.ensures.1
