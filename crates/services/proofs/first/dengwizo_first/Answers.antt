-- Refused, or the work; the scratch is cleared.
use native.Mathlib.Omega.{arith}
use mathlib.Core.Path.{sym, ◌∙◌}
use lib.ListN.{length}
use Rattle.services.specs.Left.{walk_of}
use Rattle.services.proofs.Admitting.{refused, granted}
use Rattle.services.proofs.Calls.{accepts, first_refused, first_call_lem}
use Rattle.services.proofs.first.dengwizo_first.Goals as goal

pub refuse-requires : goal.refuse-requires
refuse-requires c =
    let f = refused (length c.args.scratch.now) 512 c.args.table.now _ (sym c.admitted.ensures.answer ∙ c.in-Err.is) _ c.number.ensures in (omega (arith, f.number), omega (arith, f.place), λ l. (f.long l).0)

pub first_accepted-answer-requires : goal.first_accepted-answer-requires
first_accepted-answer-requires c =
    accepts c.args.table.now c.args.scratch.now 512 _ (sym c.admitted.ensures.answer ∙ c.in-Ok.is) _ c.new-sheet.ensures

pub new-sheet-requires : goal.new-sheet-requires
new-sheet-requires c = c.admitted.ensures.indexed _ c.in-Ok.is

pub clear-requires : goal.clear-requires
clear-requires c =
    let g = granted (length c.args.scratch.now) 512 c.args.table.now _ (sym c.admitted.ensures.answer ∙ c.in-Ok.is) in omega (arith, g.enough, c.first_accepted-answer.auto.scratch)

pub returns-in-Err : goal.returns-in-Err
returns-in-Err c =
    first_refused c.args.table.now c.args.scratch.now _ _ c.number.ensures c.refuse.result c.refuse.ensures.0 _ c.refuse.ensures.1 (sym c.admitted.ensures.answer ∙ c.in-Err.is) (walk_of c.args.entries.now c.args.length.now)

pub returns-in-Ok : goal.returns-in-Ok
returns-in-Ok c =
    first_call_lem c.args.table.now c.args.scratch.now (walk_of c.args.entries.now c.args.length.now) (granted (length c.args.scratch.now) 512 c.args.table.now _ (sym c.admitted.ensures.answer ∙ c.in-Ok.is)).enough _ c.new-sheet.ensures _ c.first_accepted-answer.ensures _ c.clear.ensures
