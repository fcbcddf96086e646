-- `collections::building::put_before` meets its contract.
use Rattle.collections.proofs.Gaps.{gap_copyable, gap_filled}
use Rattle.collections.proofs.building.put_before.Goals as goal

pub copy_value-requires : goal.copy_value-requires
copy_value-requires c =
    let after_shift_up = c in
    let after_length_of = after_shift_up in
    let start = after_length_of in
    gap_copyable start.requires _ after_length_of.length_of-n.ensures.is after_shift_up.shift_up.ensures

pub returns : goal.returns
returns c =
    let after_copy_value = c in
    let after_shift_up = after_copy_value in
    let after_length_of = after_shift_up in
    let start = after_length_of in
    gap_filled start.requires _ after_length_of.length_of-n.ensures.is after_shift_up.shift_up.ensures after_copy_value.copy_value.ensures
