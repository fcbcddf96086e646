-- `put_line` meets its contract.
use native.Mathlib.Omega.{arith}
use lib.ListN.{length-set}
use Rattle.print.proofs.Writing.{wrote_length}
use Rattle.print.proofs.Lines.{list_room, space_room, outcome_room, newline_room, line_written}
use Rattle.print.proofs.put_line.Goals as goal

pub put_list-end-requires : goal.put_list-end-requires
put_list-end-requires c = list_room (λ i. omega (arith, c.type_inv.list i)) c.requires

pub bounds-out-end : goal.bounds-out-end
bounds-out-end c = space_room (λ i. omega (arith, c.type_inv.list i)) c.requires c.put_list-end.ensures

pub overflow_add-end : goal.overflow_add-end
overflow_add-end c =
    omega (arith, space_room (λ i. omega (arith, c.type_inv.list i)) c.requires c.put_list-end.ensures, c.well_formed)

pub put_outcome-last-requires : goal.put_outcome-last-requires
put_outcome-last-requires c = outcome_room (λ i. omega (arith, c.type_inv.list i)) c.requires c.put_list-end.ensures

pub bounds-out-last : goal.bounds-out-last
bounds-out-last c =
    newline_room (λ i. omega (arith, c.type_inv.list i)) c.requires c.put_list-end.ensures c.put_outcome-last.ensures

pub overflow_add-result : goal.overflow_add-result
overflow_add-result c =
    omega (arith, (line_written (λ i. omega (arith, c.type_inv.list i)) c.requires c.put_list-end.ensures c.put_outcome-last.ensures).within, c.requires.room)

pub shape_of-out : goal.shape_of-out
shape_of-out c =
    omega (arith, length-set c.put_outcome-last.new.out c.put_outcome-last.result 10, c.put_outcome-last.auto.out, length-set c.put_list-end.new.out c.put_list-end.result 32, wrote_length c.put_list-end.ensures)

pub returns : goal.returns
returns c =
    line_written (λ i. omega (arith, c.type_inv.list i)) c.requires c.put_list-end.ensures c.put_outcome-last.ensures
