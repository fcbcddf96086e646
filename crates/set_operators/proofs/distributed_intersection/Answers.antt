-- `set_operators::distributed_intersection` meets its contract.
use Rattle.set_operators.proofs.Telling.{family}
use Rattle.set_operators.proofs.Gathers.{set_items, intersection_of_none, intersection_of_others, dinter_none, dinter_first, dinter_room, dinter_copy, dinter_done}
use Rattle.set_operators.proofs.distributed_intersection.Goals as goal

pub returns-then-not-is_of_kind : goal.returns-then-not-is_of_kind
returns-then-not-is_of_kind c = intersection_of_none c.is_of_kind.ensures c.if-not-is_of_kind.true

pub all_of_kind-requires : goal.all_of_kind-requires
all_of_kind-requires c = set_items c.is_of_kind.ensures c.if-not-is_of_kind.false c.length_of.ensures.is

pub returns-then-not-all_of_kind : goal.returns-then-not-all_of_kind
returns-then-not-all_of_kind c =
    intersection_of_others c.is_of_kind.ensures c.if-not-is_of_kind.false c.length_of.ensures.is c.all_of_kind.ensures c.if-not-all_of_kind.true

pub returns-then-end-base : goal.returns-then-end-base
returns-then-end-base c =
    dinter_none (family c.is_of_kind.ensures c.if-not-is_of_kind.false c.length_of.ensures.is c.all_of_kind.ensures c.if-not-all_of_kind.false) c.if-end-base.true

pub length_of-n-requires : goal.length_of-n-requires
length_of-n-requires c =
    dinter_first (family c.is_of_kind.ensures c.if-not-is_of_kind.false c.length_of.ensures.is c.all_of_kind.ensures c.if-not-all_of_kind.false) c.if-end-base.false

pub choose-requires : goal.choose-requires
choose-requires c =
    dinter_room (family c.is_of_kind.ensures c.if-not-is_of_kind.false c.length_of.ensures.is c.all_of_kind.ensures c.if-not-all_of_kind.false) c.if-end-base.false c.requires _ c.length_of-n.ensures.is

pub copy_value-requires : goal.copy_value-requires
copy_value-requires c =
    dinter_copy (family c.is_of_kind.ensures c.if-not-is_of_kind.false c.length_of.ensures.is c.all_of_kind.ensures c.if-not-all_of_kind.false) c.if-end-base.false c.requires _ c.length_of-n.ensures.is c.choose.ensures

pub returns : goal.returns
returns c =
    dinter_done (family c.is_of_kind.ensures c.if-not-is_of_kind.false c.length_of.ensures.is c.all_of_kind.ensures c.if-not-all_of_kind.false) c.if-end-base.false c.requires _ c.length_of-n.ensures.is c.choose.ensures c.copy_value.ensures
