-- `set_operators::union` meets its contract.
use Rattle.calling.proofs.Answering.{passed_up}
use Rattle.set_operators.proofs.Answers.{union_off, union_room, union_full, union_copy, union_done}
use Rattle.set_operators.proofs.union.Goals as goal

pub returns-then-not-two_sets : goal.returns-then-not-two_sets
returns-then-not-two_sets c = union_off c.two_sets.ensures c.requires c.if-not-two_sets.true

pub merge-requires : goal.merge-requires
merge-requires c = union_room c.two_sets.ensures c.requires c.if-not-two_sets.false

pub copy_value-requires : goal.copy_value-requires
copy_value-requires c = union_copy c.two_sets.ensures c.requires c.if-not-two_sets.false c.merge.ensures c.in_ok-merge.was

pub returns-in_err-merge : goal.returns-in_err-merge
returns-in_err-merge c =
    rw (passed_up c.from_residual.result c.from_residual.ensures.1)
    (union_full c.two_sets.ensures c.requires c.if-not-two_sets.false c.merge.ensures c.in_err-merge.was)

pub returns : goal.returns
returns c =
    union_done c.two_sets.ensures c.requires c.if-not-two_sets.false c.merge.ensures c.in_ok-merge.was c.copy_value.ensures
