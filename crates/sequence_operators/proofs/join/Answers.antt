-- `join` meets its contract.
use native.Mathlib.Omega.{arith}
use Rattle.values.proofs.Records.{holds}
use Rattle.sequence_operators.proofs.Joining.{join_full, join_movable, join_done}
use Rattle.sequence_operators.proofs.join.Goals as goal

pub length_of-n-requires : goal.length_of-n-requires
length_of-n-requires c = holds c.requires.left.here

pub length_of-m-requires : goal.length_of-m-requires
length_of-m-requires c = holds c.requires.right.here

pub returns-then-whole-gt-LIMIT : goal.returns-then-whole-gt-LIMIT
returns-then-whole-gt-LIMIT c = join_full c.length_of-n.ensures.is c.length_of-m.ensures.is (omega arith)

pub copy_bytes-requires : goal.copy_bytes-requires
copy_bytes-requires c = join_movable c.length_of-n.ensures.is c.length_of-m.ensures.is c.requires (omega arith)

pub returns : goal.returns
returns c =
    join_done c.length_of-n.ensures.is c.length_of-m.ensures.is c.requires (omega arith) c.copy_bytes.ensures c.put_head.ensures
