use native.Mathlib.Omega.{arith}
use Rattle.forming.proofs.Framing.{slot_written}
use Rattle.forming.proofs.frames.put_slot.Goals as goal

pub returns : goal.returns
returns c =
    slot_written _ _ _ _ _ c.requires.0 c.requires.1 c.requires.2 (omega arith) c.copy_from_slice.ensures.after
