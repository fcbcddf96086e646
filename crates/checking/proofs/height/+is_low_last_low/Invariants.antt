use Prim.Native.Nat.{◌+◌, ◌*◌}
use Rattle.tables.specs.Accepted.{records}
use Rattle.checking.proofs.Heights.{LowTo, Down}
use Rattle.checking.proofs.height.+is_low_last_low.Given as goal

abbrev pub decreases-is_low : goal.decreases-is_low
decreases-is_low l = 2 * l.r + 1

abbrev pub decreases-last_low : goal.decreases-last_low
decreases-last_low l = 2 * l.r

abbrev pub invariant-is_low-loop-room : goal.invariant-is_low-loop-room
invariant-is_low-loop-room l = Down (records l.sheet) l.r l.most l.q l.room

abbrev pub invariant-last_low-loop-i : goal.invariant-last_low-loop-i
invariant-last_low-loop-i l = LowTo (records l.sheet) l.r l.most l.i
