-- `set_operators::distributed_union` meets its contract.
use Rattle.calling.proofs.Answering.{passed_up}
use Rattle.set_operators.proofs.Telling.{family}
use Rattle.set_operators.proofs.Gathers.{set_items, union_of_none, union_of_others, dunion_room, dunion_copy, dunion_full, dunion_done}
use Rattle.set_operators.proofs.distributed_union.Goals as goal

pub returns-then-not-is_of_kind : goal.returns-then-not-is_of_kind
returns-then-not-is_of_kind c = union_of_none c.is_of_kind.ensures c.if-not-is_of_kind.true

pub all_of_kind-requires : goal.all_of_kind-requires
all_of_kind-requires c = set_items c.is_of_kind.ensures c.if-not-is_of_kind.false c.length_of.ensures.is

pub returns-then-not-all_of_kind : goal.returns-then-not-all_of_kind
returns-then-not-all_of_kind c =
    union_of_others c.is_of_kind.ensures c.if-not-is_of_kind.false c.length_of.ensures.is c.all_of_kind.ensures c.if-not-all_of_kind.true

pub insert_each-requires : goal.insert_each-requires
insert_each-requires c =
    dunion_room (family c.is_of_kind.ensures c.if-not-is_of_kind.false c.length_of.ensures.is c.all_of_kind.ensures c.if-not-all_of_kind.false) c.requires c.length_of.ensures.is c.put_empty.ensures

pub copy_value-requires : goal.copy_value-requires
copy_value-requires c =
    dunion_copy (family c.is_of_kind.ensures c.if-not-is_of_kind.false c.length_of.ensures.is c.all_of_kind.ensures c.if-not-all_of_kind.false) c.requires c.length_of.ensures.is c.put_empty.ensures c.insert_each.ensures c.in_ok-insert_each.was

pub returns-in_err-insert_each : goal.returns-in_err-insert_each
returns-in_err-insert_each c =
    rw (passed_up c.from_residual.result c.from_residual.ensures.1)
    (dunion_full (family c.is_of_kind.ensures c.if-not-is_of_kind.false c.length_of.ensures.is c.all_of_kind.ensures c.if-not-all_of_kind.false) c.requires c.length_of.ensures.is c.put_empty.ensures c.insert_each.ensures c.in_err-insert_each.was)

pub returns : goal.returns
returns c =
    dunion_done (family c.is_of_kind.ensures c.if-not-is_of_kind.false c.length_of.ensures.is c.all_of_kind.ensures c.if-not-all_of_kind.false) c.requires c.length_of.ensures.is c.put_empty.ensures c.insert_each.ensures c.in_ok-insert_each.was c.copy_value.ensures
