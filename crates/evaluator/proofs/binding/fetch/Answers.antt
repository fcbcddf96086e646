use native.Mathlib.Omega.{arith}
use Rattle.evaluator.proofs.Tables.{room_here}
use Rattle.evaluator.proofs.Firsts.{binder_first}
use Rattle.evaluator.proofs.Standing.{binder_has}
use Rattle.evaluator.proofs.Entering.{entered}
use Rattle.evaluator.proofs.Unique.{fetch_field, fetch_name, fetch_puttable, fetch_copyable, fetch_done}
use Rattle.evaluator.proofs.binding.fetch.Goals as goal

pub bind_names-requires : goal.bind_names-requires
bind_names-requires c = record { choices = c.requires.choices; stands = c.requires.stands }

pub operand_from-p-requires : goal.operand_from-p-requires
operand_from-p-requires c =
    (binder_has c.requires.stands.asked c.requires.stands.binder 0 (omega arith), binder_first c.requires.stands.binder)

pub field-x-requires : goal.field-x-requires
field-x-requires c = fetch_field c.requires.stands c.requires.iota c.operand_from-p.ensures.0

pub bounds-inner-x : goal.bounds-inner-x
bounds-inner-x c = fetch_name c.requires.stands c.requires.iota c.operand_from-p.ensures.0 c.field-x.ensures.0

pub overflow_add-base : goal.overflow_add-base
overflow_add-base c = omega (arith, room_here c.requires.stands.asked, c.requires.stands.asked.low)

pub put_part-requires : goal.put_part-requires
put_part-requires c =
    fetch_puttable c.requires.stands c.requires.iota c.operand_from-p.ensures.0 c.field-x.ensures.0 (entered c.operand_from-p.ensures.0 c.bind_names.ensures) c.bind_names.ensures.under c.unpack-part.ensures

pub overflow_add-base-2 : goal.overflow_add-base-2
overflow_add-base-2 c = omega (arith, room_here c.requires.stands.asked, c.requires.stands.asked.low)

pub copy_value-requires : goal.copy_value-requires
copy_value-requires c =
    fetch_copyable c.requires.stands c.requires.iota c.operand_from-p.ensures.0 c.field-x.ensures.0 (entered c.operand_from-p.ensures.0 c.bind_names.ensures) c.bind_names.ensures.under c.unpack-part.ensures c.put_part.ensures

pub returns : goal.returns
returns c =
    fetch_done c.requires.stands c.requires.iota c.operand_from-p.ensures.0 c.field-x.ensures.0 (entered c.operand_from-p.ensures.0 c.bind_names.ensures) c.bind_names.ensures.under c.unpack-part.ensures c.put_part.ensures c.copy_value.ensures
