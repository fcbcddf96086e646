-- One piece: the whole print.
use native.Mathlib.Omega.{arith}
use mathlib.Core.Path.{sym}
use lib.ListN.{length, replicate, length-replicate}
use lib.Seq.{length-take-le}
use Prim.Native.Nat.{ℕ, ◌≤◌}
use Rattle.print.specs.Contract.{short_line}
use Rattle.walk.proofs.Handing.{refused_inside, refused_next, refused_printed, refused_arrived}
use Rattle.walk.proofs.print_refused.Goals as goal

room : short_line ≤ length {A = ℕ} (replicate 64 0)
room = omega (arith, length-replicate {A = ℕ} 64 0)

pub slice_bounds-out-end : goal.slice_bounds-out-end
slice_bounds-out-end g c =
    refused_inside c.args.table.now c.args.fault c.requires (replicate 64 0) c.put_refused-end.new.out c.put_refused-end.result (rw c.number.ensures at c.put_refused-end.ensures) room

pub slice_bounds-hand_on-end : goal.slice_bounds-hand_on-end
slice_bounds-hand_on-end g c =
    sym (length-take-le c.put_refused-end.result c.put_refused-end.new.out (refused_inside c.args.table.now c.args.fault c.requires (replicate 64 0) c.put_refused-end.new.out c.put_refused-end.result (rw c.number.ensures at c.put_refused-end.ensures) room))

pub hand_on-requires : goal.hand_on-requires
hand_on-requires g c =
    refused_next c.args.table.now c.args.fault c.requires (replicate 64 0) c.put_refused-end.new.out c.put_refused-end.result (rw c.number.ensures at c.put_refused-end.ensures) room

pub returns-clause-count : goal.returns-clause-count
returns-clause-count g c =
    refused_printed c.args.table.now c.args.fault c.requires (replicate 64 0) c.put_refused-end.new.out c.put_refused-end.result (rw c.number.ensures at c.put_refused-end.ensures) room c.hand_on.result c.hand_on.ensures.count

pub returns-clause-bytes : goal.returns-clause-bytes
returns-clause-bytes g c =
    refused_arrived c.args.table.now c.args.fault c.requires (replicate 64 0) c.put_refused-end.new.out c.put_refused-end.result (rw c.number.ensures at c.put_refused-end.ensures) room _ _ c.hand_on.result c.hand_on.ensures.bytes
