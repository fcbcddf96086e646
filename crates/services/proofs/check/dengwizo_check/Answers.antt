-- Refused or accepted; the scratch is cleared.
use native.Mathlib.Omega.{arith}
use mathlib.Core.Path.{sym, ◌∙◌}
use lib.ListN.{length}
use Rattle.services.proofs.Admitting.{refused, granted}
use Rattle.services.proofs.Calls.{check_refused, check_accepted}
use Rattle.services.proofs.check.dengwizo_check.Goals as goal

pub refuse-requires : goal.refuse-requires
refuse-requires c =
    let f = refused (length c.args.scratch.now) 512 c.args.table.now _ (sym c.admitted.ensures.answer ∙ c.in-Err.is) _ c.number.ensures in (omega (arith, f.number), omega (arith, f.place), λ l. (f.long l).0)

pub clear-requires : goal.clear-requires
clear-requires c =
    (granted (length c.args.scratch.now) 512 c.args.table.now _ (sym c.admitted.ensures.answer ∙ c.in-Ok.is)).enough

pub pack-requires : goal.pack-requires
pack-requires c =
    let g = granted (length c.args.scratch.now) 512 c.args.table.now _ (sym c.admitted.ensures.answer ∙ c.in-Ok.is) in (omega arith, omega arith, omega (arith, g.few))

pub returns-in-Err : goal.returns-in-Err
returns-in-Err c =
    check_refused c.args.table.now c.args.scratch.now _ _ c.number.ensures c.refuse.result c.refuse.ensures.0 _ c.refuse.ensures.1 (sym c.admitted.ensures.answer ∙ c.in-Err.is)

pub returns-in-Ok : goal.returns-in-Ok
returns-in-Ok c =
    check_accepted c.args.table.now c.args.scratch.now _ (sym c.admitted.ensures.answer ∙ c.in-Ok.is) c.pack.result c.pack.ensures _ c.clear.ensures
