-- From the last entry down.
use Prim.Native.Nat.{ℕ, suc, ◌+◌, ◌-◌}
use native.Mathlib.Omega.{arith}
use mathlib.Core.Path.{◌≡◌, sym, ap, subst, ◌∙◌}
use mathlib.Core.Bool.{true, false}
use mathlib.Core.List.{List}
use lib.ListN.{set}
use Rattle.choices.specs.State.{Moved}
use Rattle.lists.specs.Lent.{lent}
use Rattle.lists.specs.Runs.{restarted}
use Rattle.lists.proofs.Moving.{looking_all, looking_on, looking_up, looking_none}
use Rattle.lists.proofs.advance.Goals as goal

pub loop-i-init : goal.loop-i-init
loop-i-init c = looking_all _ c.requires _ c.from-i.ensures

pub returns-then-next-from : goal.returns-then-next-from
returns-then-next-from c =
    let i : c.loop-i.i ≡ suc (c.loop-i.i - 1) = omega (arith, c.loop-i-test.true) in
    let same : c.loop-i.i - 1 + 1 ≡ c.loop-i.i = omega arith in
    subst (λ (x : List ℕ). Moved (lent c.args.run.now) (record { more = true; state = lent x }))
    (sym (c.restart.ensures ∙ ap (restarted (set c.loop-i.run (3 + (c.loop-i.i - 1)) (c.from-next.result + 1))) same))
    (looking_up c.args.run.now c.loop-i.run c.requires c.loop-i.i c.loop-i.invariant (c.loop-i.i - 1) i c.from-next.result c.from.result c.from-next.ensures c.from.ensures c.if-next-from.true)

pub loop-i-preserved : goal.loop-i-preserved
loop-i-preserved c =
    looking_on c.args.run.now c.loop-i.run c.requires c.loop-i.i c.loop-i.invariant (c.loop-i.i - 1) (omega (arith, c.loop-i-test.true)) c.from-next.result c.from.result c.from-next.ensures c.from.ensures c.if-next-from.false

pub restart-requires-2 : goal.restart-requires-2
restart-requires-2 c = (omega arith, c.loop-i.invariant.sized)

pub returns : goal.returns
returns c =
    subst (λ (x : List ℕ). Moved (lent c.args.run.now) (record { more = false; state = lent x })) (sym c.restart-2.ensures) (looking_none c.args.run.now c.loop-i.run c.requires c.loop-i.i c.loop-i.invariant (omega (arith, c.loop-i-test.false)))
