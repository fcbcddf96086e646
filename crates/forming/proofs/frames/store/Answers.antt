use Rattle.forming.proofs.Framing.{stored}
use Rattle.forming.proofs.frames.store.Goals as goal

pub bytes_of-bytes-requires : goal.bytes_of-bytes-requires
bytes_of-bytes-requires c = c.requires.2

pub put_slot-requires : goal.put_slot-requires
put_slot-requires c = (c.requires.0, c.requires.1, c.bytes_of-bytes.ensures.1)

pub returns : goal.returns
returns c = stored _ _ _ _ _ c.bytes_of-bytes.ensures.0 c.put_slot.ensures
