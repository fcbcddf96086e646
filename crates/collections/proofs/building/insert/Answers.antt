-- `collections::building::insert` meets its contract.
use native.Mathlib.Omega.{arith}
use Rattle.collections.proofs.Additions.{inserted_here, insert_slot, inserted_before}
use Rattle.collections.proofs.building.insert.Goals as goal

pub add-requires : goal.add-requires
add-requires c =
    let after_p = c in
    let after_seek = after_p in
    let start = after_seek in
    (insert_slot after_seek.seek_member.ensures start.requires _ after_p.in-Err.is, omega arith)

pub returns-in-Ok : goal.returns-in-Ok
returns-in-Ok c = inserted_here c.seek_member.ensures _ c.in-Ok.is

pub returns-in-Err : goal.returns-in-Err
returns-in-Err c =
    let after_add = c in
    let after_p = after_add in
    let after_seek = after_p in
    inserted_before after_seek.seek_member.ensures _ after_p.in-Err.is after_add.add.ensures
