-- `set_operators::selection` meets its contract.
use Rattle.set_operators.proofs.Answers.{selection_off, selection_room, selection_copy, selection_done}
use Rattle.set_operators.proofs.selection.Goals as goal

pub returns-then-not-two_sets : goal.returns-then-not-two_sets
returns-then-not-two_sets c = selection_off c.requires.1 c.requires.2 c.two_sets.ensures c.requires.0 c.if-not-two_sets.true

pub choose-requires : goal.choose-requires
choose-requires c =
    selection_room c.requires.1 c.requires.2 c.two_sets.ensures c.requires.0 c.if-not-two_sets.false _ c.length_of-n.ensures.is

pub copy_value-requires : goal.copy_value-requires
copy_value-requires c =
    selection_copy c.requires.1 c.requires.2 c.two_sets.ensures c.requires.0 c.if-not-two_sets.false _ c.length_of-n.ensures.is c.choose.ensures

pub returns : goal.returns
returns c =
    selection_done c.requires.1 c.requires.2 c.two_sets.ensures c.requires.0 c.if-not-two_sets.false _ c.length_of-n.ensures.is c.choose.ensures c.copy_value.ensures
