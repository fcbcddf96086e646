-- `has_item`: the value is among all items exactly where it is among those that are left.
use mathlib.Core.Path.{sym, ◌∙◌}
use native.Mathlib.Omega.{arith}
use Rattle.parts.proofs.Laws.{is_equal, not_equal}
use Rattle.parts.proofs.Running.{more_held, run_less}
use Rattle.parts.proofs.Parting.{unfound_start, unfound_held, unfound_end, first_held, unfound_found, unfound_more}
use Rattle.parts.proofs.has_item.Goals as goal

pub run_of-r-requires : goal.run_of-r-requires
run_of-r-requires c = c.requires.1

pub loop-r-init : goal.loop-r-init
loop-r-init c = unfound_start _ _ _

pub whole_at-item-requires : goal.whole_at-item-requires
whole_at-item-requires c =
    let h = run_less (unfound_held c.loop-r.invariant c.requires.1 c.run_of-r.ensures c.requires.2) in omega (arith, h.0, h.1, c.requires.0)

pub order_parts-requires : goal.order_parts-requires
order_parts-requires c =
    (first_held c.whole_at-item.ensures c.loop-r-test.true (unfound_held c.loop-r.invariant c.requires.1 c.run_of-r.ensures c.requires.2), c.requires.2)

pub returns-then-eq : goal.returns-then-eq
returns-then-eq c =
    unfound_found c.loop-r.invariant c.loop-r-test.true c.whole_at-item.ensures _ c.order_parts.ensures c.run_of-r.ensures (is_equal _ (sym c.eq.ensures ∙ c.if-eq.true))

pub rest-r-requires : goal.rest-r-requires
rest-r-requires c =
    more_held c.loop-r-test.true (unfound_held c.loop-r.invariant c.requires.1 c.run_of-r.ensures c.requires.2)

pub loop-r-smaller : goal.loop-r-smaller
loop-r-smaller c = let e = c.rest-r.ensures in omega arith

pub loop-r-preserved : goal.loop-r-preserved
loop-r-preserved c =
    unfound_more c.loop-r.invariant c.loop-r-test.true c.whole_at-item.ensures _ c.order_parts.ensures (not_equal _ (sym c.eq.ensures ∙ c.if-eq.false)) c.rest-r.ensures

pub returns : goal.returns
returns c = unfound_end c.loop-r.invariant c.run_of-r.ensures (omega arith)
