-- As many lines as fit: the piece and what is to come stay together what they were.
use mathlib.Core.Path.{sym, ◌∙◌}
use native.Mathlib.Omega.{arith}
use Rattle.printing.proofs.Filling.{filling_start, filling_full, filling_ready, filling_few, filling_more, filling_end}
use Rattle.printing.proofs.fill.Goals as goal

pub loop-q-init : goal.loop-q-init
loop-q-init c =
    filling_start c.args.sheet.now c.args.count c.args.s.now c.args.run.now c.args.out.now c.args.p c.requires

pub overflow_sub-out : goal.overflow_sub-out
overflow_sub-out c = omega (arith, c.loop-q.invariant.grew.inside)

pub returns-then-out-q-lt-LONGEST_LINE : goal.returns-then-out-q-lt-LONGEST_LINE
returns-then-out-q-lt-LONGEST_LINE c =
    filling_full c.args.sheet.now c.args.count c.loop-q.s c.loop-q.run c.loop-q.out c.args.out.now c.args.p c.loop-q.q c.loop-q.invariant (omega (arith, c.loop-q.invariant.bound, c.loop-q.invariant.long, c.requires.room))

pub put_next-q-requires : goal.put_next-q-requires
put_next-q-requires c =
    (filling_ready c.args.sheet.now c.args.count c.loop-q.s c.loop-q.run c.loop-q.out c.args.out.now c.args.p c.loop-q.q c.loop-q.invariant (omega arith), sym c.is_due.ensures ∙ c.loop-q-test.true)

pub loop-q-smaller : goal.loop-q-smaller
loop-q-smaller c =
    omega (arith, c.put_next-q.ensures.next, filling_few c.args.sheet.now c.args.count c.loop-q.s c.loop-q.run c.loop-q.out c.args.out.now c.args.p c.loop-q.q c.loop-q.invariant (sym c.is_due.ensures ∙ c.loop-q-test.true))

pub loop-q-preserved : goal.loop-q-preserved
loop-q-preserved c =
    filling_more c.args.sheet.now c.args.count c.loop-q.s c.loop-q.run c.loop-q.out c.args.out.now c.args.p c.loop-q.q c.loop-q.invariant c.put_next-q.new.s c.put_next-q.new.run c.put_next-q.new.out c.put_next-q.result c.put_next-q.ensures c.put_next-q.auto.out

pub put_last-requires : goal.put_last-requires
put_last-requires c = (c.loop-q.invariant.grew.inside, c.loop-q.invariant.grew.stands.few)

pub returns : goal.returns
returns c =
    filling_end c.args.sheet.now c.args.count c.loop-q.s c.loop-q.run c.loop-q.out c.args.out.now c.args.p c.loop-q.q c.loop-q.invariant (sym c.is_due.ensures ∙ c.loop-q-test.false) (omega (arith, c.requires.room)) c.put_last.new.out c.put_last.result c.put_last.ensures c.put_last.auto.out
