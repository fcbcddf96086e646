-- `put_outcome` meets its contract.
use mathlib.Core.Path.{◌∙◌}
use native.Mathlib.Omega.{arith}
use lib.ListN.{length-set}
use Rattle.print.proofs.Writing.{wrote_length}
use Rattle.print.proofs.Decimals.{decimal_any}
use Rattle.print.proofs.Wording.{word_short}
use Rattle.print.proofs.Lines.{outcome_value, value_shown, refusal_written}
use Rattle.print.proofs.put_outcome.Goals as goal

pub put_value-requires : goal.put_value-requires
put_value-requires c = outcome_value c.requires c.in_default.is

pub shape_of-out-in_default : goal.shape_of-out-in_default
shape_of-out-in_default c = c.put_value.auto.out ∙ length-set c.args.out.now c.args.at 61

pub returns-in_default : goal.returns-in_default
returns-in_default c = value_shown c.in_default.is c.put_value.ensures

pub put_number-end-requires : goal.put_number-end-requires
put_number-end-requires c = omega (arith, c.requires.room, decimal_any c.number.result (omega arith), length-set c.args.out.now c.args.at 33)

pub bounds-out-end : goal.bounds-out-end
bounds-out-end c =
    omega (arith, c.requires.room, decimal_any c.number.result (omega arith), c.put_number-end.ensures.ends, wrote_length c.put_number-end.ensures, length-set c.args.out.now c.args.at 33)

pub overflow_add-end : goal.overflow_add-end
overflow_add-end c =
    omega (arith, c.requires.room, decimal_any c.number.result (omega arith), c.put_number-end.ensures.ends, wrote_length c.put_number-end.ensures, length-set c.args.out.now c.args.at 33)

pub put_word-requires : goal.put_word-requires
put_word-requires c =
    omega (arith, c.requires.room, decimal_any c.number.result (omega arith), c.put_number-end.ensures.ends, wrote_length c.put_number-end.ensures, length-set c.args.out.now c.args.at 33, length-set c.put_number-end.new.out c.put_number-end.result 32, word_short c.in-Some.refusal)

pub shape_of-out : goal.shape_of-out
shape_of-out c =
    omega (arith, c.put_number-end.ensures.ends, wrote_length c.put_number-end.ensures, length-set c.args.out.now c.args.at 33, length-set c.put_number-end.new.out c.put_number-end.result 32, wrote_length c.put_word.ensures)

pub returns : goal.returns
returns c = refusal_written c.in-Some.refusal c.in-Some.is (rw c.number.ensures at c.put_number-end.ensures) c.put_word.ensures
