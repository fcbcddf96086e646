-- The advance, and a run that grows.
use Rattle.lists.specs.Lent.{lent}
use Rattle.walks.proofs.Settling.{comes_sound, arrived}
use Rattle.walks.proofs.Stepping.{used_all, answers_none, answers_next}
use Rattle.walks.proofs.next_list.Goals as goal

pub advance-requires : goal.advance-requires
advance-requires c = used_all c.args.sheet.now c.args.walk c.args.learnt c.requires.1

pub returns-then-not-advance : goal.returns-then-not-advance
returns-then-not-advance c =
    answers_none c.args.sheet.now c.args.walk c.args.learnt c.requires.1 c.advance.result c.advance.new.run c.advance.ensures c.if-not-advance.true c.pack.result c.pack.ensures

pub run_sheet-requires : goal.run_sheet-requires
run_sheet-requires c =
    record { accepted = c.requires.0.ok; room = c.requires.0.room; sound = c.advance.ensures.sound }

pub list_of-requires : goal.list_of-requires
list_of-requires c = comes_sound c.run_sheet.ensures

pub returns : goal.returns
returns c =
    answers_next c.args.sheet.now c.args.walk c.args.learnt c.requires.1 c.advance.result c.advance.new.run c.advance.ensures c.if-not-advance.false c.run_sheet.result (lent c.run_sheet.new.run) c.run_sheet.new.s (arrived c.args.sheet.now (lent c.advance.new.run) c.run_sheet.result (lent c.run_sheet.new.run) c.run_sheet.new.s c.run_sheet.ensures) c.list_of.result c.list_of.ensures.entries c.list_of.ensures.len c.pack-2.result c.pack-2.ensures
