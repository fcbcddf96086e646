-- `put_list` meets its contract: what is left of the entries comes to the same as all after the first. The measure is what is left.
use mathlib.Core.Path.{sym, ap}
use native.Mathlib.Omega.{arith}
use lib.ListN.{length, length-set}
use Rattle.print.proofs.Writing.{wrote_one, wrote_after, wrote_then, wrote_as, wrote_length}
use Rattle.print.proofs.Listing.{list_first, listing_length, list_none, tails_length, listing_start, listing_more, listing_end}
use Rattle.print.proofs.put_list.Goals as goal

pub bounds-out-at : goal.bounds-out-at
bounds-out-at c = omega (arith, ap length (list_none c.args.list.now c.if-list-eq0.true))

pub overflow_add-result : goal.overflow_add-result
overflow_add-result c = omega (arith, ap length (list_none c.args.list.now c.if-list-eq0.true))

pub returns-then-list-eq0 : goal.returns-then-list-eq0
returns-then-list-eq0 c =
    wrote_as (sym (list_none c.args.list.now c.if-list-eq0.true)) (wrote_one c.args.out.now c.args.at 45)

pub bounds-list-0 : goal.bounds-list-0
bounds-list-0 c = omega arith

pub put_number-end-requires : goal.put_number-end-requires
put_number-end-requires c = rw c.from.ensures (omega (arith, listing_length c.args.list.now (omega arith)))

pub loop-i-init : goal.loop-i-init
loop-i-init c = listing_start c.args.list.now (omega arith) (rw c.from.ensures at c.put_number-end.ensures) c.requires

pub bounds-out-end : goal.bounds-out-end
bounds-out-end c = omega (arith, tails_length c.args.list.now c.loop-i-test.true)

pub overflow_add-end : goal.overflow_add-end
overflow_add-end c = omega (arith, tails_length c.args.list.now c.loop-i-test.true)

pub put_number-end-requires-in-loop-i : goal.put_number-end-requires-in-loop-i
put_number-end-requires-in-loop-i c =
    rw c.from-in-loop-i.ensures
    (omega (arith, tails_length c.args.list.now c.loop-i-test.true, length-set c.loop-i.out c.loop-i.end 44))

pub loop-i-preserved : goal.loop-i-preserved
loop-i-preserved c =
    listing_more c.args.list.now c.loop-i-test.true c.loop-i.invariant (wrote_after 44 (rw c.from-in-loop-i.ensures at c.put_number-end-in-loop-i.ensures))

pub shape_of-out : goal.shape_of-out
shape_of-out c = omega (arith, c.loop-i.invariant.long, wrote_length c.put_number-end.ensures)

pub returns : goal.returns
returns c =
    wrote_as (sym (list_first c.args.list.now (omega arith))) (wrote_then (rw c.from.ensures at c.put_number-end.ensures) (listing_end c.args.list.now c.loop-i-test.false c.loop-i.invariant))
