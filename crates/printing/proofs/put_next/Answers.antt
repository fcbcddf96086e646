-- The line of the list that is due, from one run, and the advance.
use mathlib.Core.Path.{sym}
use lib.Seq.{length-take-le}
use native.Mathlib.Omega.{arith}
use Rattle.lists.specs.Lent.{lent}
use Rattle.walks.proofs.Settling.{comes_sound}
use Rattle.printing.proofs.Lining.{told, used_all, list_inside, line_room, ready_due, lined}
use Rattle.printing.proofs.put_next.Goals as goal

pub run_sheet-o-requires : goal.run_sheet-o-requires
run_sheet-o-requires c =
    record { accepted = c.requires.0.stands.walkable.ok; room = c.requires.0.stands.walkable.room; sound = (ready_due c.args.sheet.now c.args.count c.args.s.now c.args.run.now c.args.out.now c.args.p c.requires.0 c.requires.1).sound }

pub list_of-list-requires : goal.list_of-list-requires
list_of-list-requires c = comes_sound c.run_sheet-o.ensures

pub slice_bounds-put_line-end : goal.slice_bounds-put_line-end
slice_bounds-put_line-end c =
    let told_here = told c.args.sheet.now c.run_sheet-o.new.s c.run_sheet-o.new.run c.run_sheet-o.result c.args.p.lists (lent c.args.run.now) (ready_due c.args.sheet.now c.args.count c.args.s.now c.args.run.now c.args.out.now c.args.p c.requires.0 c.requires.1) c.run_sheet-o.ensures in
    sym (length-take-le c.list_of-list.result.len c.list_of-list.result.entries (list_inside c.args.sheet.now c.run_sheet-o.new.s c.run_sheet-o.new.run c.run_sheet-o.result c.args.p.lists told_here c.list_of-list.result c.list_of-list.ensures))

pub refusal_of-requires : goal.refusal_of-requires
refusal_of-requires c =
    let told_here = told c.args.sheet.now c.run_sheet-o.new.s c.run_sheet-o.new.run c.run_sheet-o.result c.args.p.lists (lent c.args.run.now) (ready_due c.args.sheet.now c.args.count c.args.s.now c.args.run.now c.args.out.now c.args.p c.requires.0 c.requires.1) c.run_sheet-o.ensures in
    told_here.worded

pub put_line-at-requires : goal.put_line-at-requires
put_line-at-requires c =
    let told_here = told c.args.sheet.now c.run_sheet-o.new.s c.run_sheet-o.new.run c.run_sheet-o.result c.args.p.lists (lent c.args.run.now) (ready_due c.args.sheet.now c.args.count c.args.s.now c.args.run.now c.args.out.now c.args.p c.requires.0 c.requires.1) c.run_sheet-o.ensures in
    line_room c.args.sheet.now c.run_sheet-o.new.s c.run_sheet-o.new.run c.run_sheet-o.result c.args.p.lists told_here c.list_of-list.result c.list_of-list.ensures c.refusal_of.result c.refusal_of.ensures c.args.out.now c.args.p.at c.requires.0.room

pub advance-requires : goal.advance-requires
advance-requires c =
    let told_here = told c.args.sheet.now c.run_sheet-o.new.s c.run_sheet-o.new.run c.run_sheet-o.result c.args.p.lists (lent c.args.run.now) (ready_due c.args.sheet.now c.args.count c.args.s.now c.args.run.now c.args.out.now c.args.p c.requires.0 c.requires.1) c.run_sheet-o.ensures in
    used_all c.args.sheet.now c.run_sheet-o.new.s c.run_sheet-o.new.run c.run_sheet-o.result c.args.p.lists told_here

pub returns : goal.returns
returns c =
    let told_here = told c.args.sheet.now c.run_sheet-o.new.s c.run_sheet-o.new.run c.run_sheet-o.result c.args.p.lists (lent c.args.run.now) (ready_due c.args.sheet.now c.args.count c.args.s.now c.args.run.now c.args.out.now c.args.p c.requires.0 c.requires.1) c.run_sheet-o.ensures in
    lined c.args.sheet.now c.args.count c.args.s.now c.args.run.now c.args.out.now c.args.p c.requires.0 c.requires.1 c.run_sheet-o.new.s c.run_sheet-o.new.run c.run_sheet-o.result told_here c.list_of-list.result c.list_of-list.ensures c.refusal_of.result c.refusal_of.ensures c.put_line-at.new.out c.put_line-at.result c.put_line-at.ensures c.advance.new.run c.advance.result c.advance.ensures c.run_sheet-o.auto.s _ (omega arith)
